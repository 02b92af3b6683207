use Rattle.std.proofs.Common.{refl}
use Rattle.quel_meaning.proofs.Numbers.{next_is_new}
use Rattle.quel_meaning.proofs.plan_laws.a_new_number_is_greater.Goals as goal

pub returns : goal.returns
returns c = record { greater = next_is_new; first = refl }
