use Rattle.std.proofs.Common.{sym, ap, ◌∙◌}
use Rattle.frame_codec.specs.Reading.{Reading}
use Rattle.frame_codec.proofs.Fed.{fed_counted, fed_memory}
use Rattle.frame_codec.proofs.reader.FrameReader.feed.Goals as goal

pub returns-clause-memory : goal.returns-clause-memory
returns-clause-memory c =
    fed_memory c.args.self.now c.read_piece.new.self c.args.piece.now c.read_piece.result (sym (ap (λ (r : Reading). r.fault) c.self.view_is) ∙ c.in_default.is) c.read_piece.ensures

pub returns-clause-counted : goal.returns-clause-counted
returns-clause-counted c = fed_counted c.args.self.now c.read_piece.new.self c.args.piece.now c.read_piece.result c.read_piece.ensures
