use Rattle.calculus_laws.proofs.ViewAnswer.{view_answers, view_rows_asked}
use Rattle.calculus_laws.proofs.views.a_view_has_the_answer_of_its_query.Goals as goal

pub returns : goal.returns
returns c = record { answer = view_answers; rows = view_rows_asked }
