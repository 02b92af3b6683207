use Rattle.quel_grammar.proofs.Further.{further}
use Rattle.quel_grammar.proofs.laws.statements_end_further.Goals as goal

pub returns : goal.returns
returns c = further
