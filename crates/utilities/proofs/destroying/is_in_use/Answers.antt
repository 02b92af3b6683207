use Rattle.std.proofs.Common.{◌≡◌, Bool, subst}
use Rattle.std.specs.Prelude.{IfOk}
use Rattle.utilities.proofs.InUse.{used_where_named}
use Rattle.utilities.proofs.destroying.is_in_use.Goals as goal

pub returns-clause-known : goal.returns-clause-known
returns-clause-known g c = λ db e. subst (λ (named : Bool). IfOk c.some_named.result (λ b. b ≡ named)) (used_where_named db c.args.rels.now) (c.some_named.ensures.known db e)
