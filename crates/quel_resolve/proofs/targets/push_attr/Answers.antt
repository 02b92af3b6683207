use Rattle.std.proofs.Common.{◌∷◌, [], subst}
use Rattle.std.proofs.lemmas.Result.{on_ok_weaker}
use Rattle.calculus.specs.declared.statement.Item.TheVariants as item
use Rattle.quel_resolve.specs.Targets.{Puts}
use Rattle.quel_resolve.proofs.Putting.{puts_attr}
use Rattle.quel_resolve.proofs.targets.push_attr.Goals as goal

pub returns-clause-known : goal.returns-clause-known
returns-clause-known g c = λ db slot h.
    let k = c.args.known in
    on_ok_weaker c.push_term-done.result
    (λ puts. puts_attr db _ _ _ _ slot _ _ _ _
    (subst (λ term. Puts db k.vars.now k.infos.now k.inner_vars.now k.inner_infos.now 0 (item.Set c.args.attr.now term ∷ []) c.args.targets.now.items c.push_term-done.new.targets.items) c.in_ok-term.ensures puts))
    (c.push_term-done.ensures.known db h)
