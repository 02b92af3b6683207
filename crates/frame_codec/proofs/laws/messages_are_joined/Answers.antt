use Rattle.frame_codec.proofs.Joined.{cut_is_joined, joined_later}
use Rattle.frame_codec.proofs.laws.messages_are_joined.Goals as goal

pub returns-clause-cut : goal.returns-clause-cut
returns-clause-cut c = cut_is_joined

pub returns-clause-later : goal.returns-clause-later
returns-clause-later c = joined_later
