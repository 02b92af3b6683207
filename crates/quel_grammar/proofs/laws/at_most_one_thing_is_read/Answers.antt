use Rattle.quel_grammar.specs.Pieces.{pieces_from}
use Rattle.quel_grammar.proofs.OneReading.{one_next}
use Rattle.quel_grammar.proofs.laws.at_most_one_thing_is_read.Goals as goal

pub returns : goal.returns
returns c = λ text from. one_next (pieces_from text from)
