use Rattle.std.proofs.Common.{◌≡◌, subst, is_some}
use Rattle.std.specs.Prelude.{IfOk}
use Rattle.calculus.specs.declared.query.RelKey.{RelKey}
use Rattle.base_trait.specs.Known.{known_at}
use Rattle.quel_names.proofs.entry.is_known.Goals as goal

pub returns-clause-known : goal.returns-clause-known
returns-clause-known g c = λ db h. subst (λ (key : RelKey). IfOk c.is_under.result (λ b. b ≡ is_some (known_at db key))) c.in_ok-key.ensures (c.is_under.ensures.known db h)
