use Rattle.frame_codec.proofs.Written.{read_written}
use Rattle.frame_codec.proofs.laws.what_is_written_is_read.Goals as goal

pub returns : goal.returns
returns c = read_written
