use Rattle.std.proofs.Common.{◌≡◌, subst, IfOk}
use Rattle.aggregates.proofs.Apart.{last_is}
use Rattle.aggregates.proofs.folding.last_or.Goals as goal

pub returns-in-Some : goal.returns-in-Some
returns-in-Some c = subst (λ w. IfOk c.copy.result (λ v. v ≡ w)) (last_is c.args.none.now c.args.values.now c.in-Some.value.now c.in-Some.ensures.value) c.copy.ensures
