use Rattle.calculus_laws.proofs.Asked.{assignments}
use Rattle.calculus_laws.proofs.answers.assignments_have_a_row_for_each_variable.Goals as goal

pub returns : goal.returns
returns c = assignments
