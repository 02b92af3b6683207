use Rattle.quel_meaning.proofs.AllUsed.{all_used, all_replaced, all_deleted}
use Rattle.quel_meaning.proofs.resolving_laws.listed_variables_are_used.Goals as goal

pub returns : goal.returns
returns c = record { used = all_used; replaced = all_replaced; deleted = all_deleted }
