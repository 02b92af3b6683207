use Rattle.frame_codec.proofs.Spelled.{cut_lawful, cut_joined, spelled_apart}
use Rattle.frame_codec.proofs.laws.messages_are_spelled_apart.Goals as goal

pub returns-clause-lawful : goal.returns-clause-lawful
returns-clause-lawful c = cut_lawful

pub returns-clause-joined : goal.returns-clause-joined
returns-clause-joined c = cut_joined

pub returns-clause-apart : goal.returns-clause-apart
returns-clause-apart c = spelled_apart
