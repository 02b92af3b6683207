use Rattle.calculus_laws.proofs.Asked.{answered, answer_is_a_set, lacking}
use Rattle.calculus_laws.proofs.answers.an_answer_has_what_is_asked_for.Goals as goal

pub returns : goal.returns
returns c = record { rows = answered; set = answer_is_a_set; lack = lacking }
