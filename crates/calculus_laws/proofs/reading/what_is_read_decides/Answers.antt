use Rattle.calculus_laws.proofs.SameAnswer.{rows_are_same, answers_are_same, lacks_are_same}
use Rattle.calculus_laws.proofs.SameUpdate.{updates_are_same}
use Rattle.calculus_laws.proofs.reading.what_is_read_decides.Goals as goal

pub returns : goal.returns
returns c = record { rows = rows_are_same; answers = answers_are_same; lacks = lacks_are_same; updates = updates_are_same }
