use Rattle.tree_laws.proofs.Answering.{answer_put, lacks_put}
use Rattle.tree_laws.proofs.answers.what_is_put_in_answers_the_same.Goals as goal

pub returns : goal.returns
returns c = record { answers = answer_put; lacks = lacks_put }
