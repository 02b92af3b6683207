use Rattle.quel_grammar.specs.Pieces.{pieces_from}
use Rattle.quel_grammar.proofs.Answered.{reads, only_reading}
use Rattle.quel_grammar.proofs.OneReading.{one_next}
use Rattle.quel_grammar.proofs.laws.what_is_computed_is_read.Goals as goal

pub returns : goal.returns
returns c = record { computed = reads; alone = λ text from next p. one_next (pieces_from text from) next _ p (reads text from); only = only_reading }
