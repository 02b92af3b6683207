use Rattle.quel_meaning.proofs.Numbers.{ascending_same, ascending_in_order}
use Rattle.quel_meaning.proofs.plan_laws.listed_numbers_ascend.Goals as goal

pub returns : goal.returns
returns c = record { same = ascending_same; ascend = ascending_in_order }
