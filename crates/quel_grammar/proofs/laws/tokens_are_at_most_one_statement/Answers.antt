use Rattle.quel_grammar.proofs.OneReading.{one_reading}
use Rattle.quel_grammar.proofs.laws.tokens_are_at_most_one_statement.Goals as goal

pub returns : goal.returns
returns c = one_reading
