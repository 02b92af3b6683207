use Rattle.std.proofs.Common.{sym, ap, ◌∙◌, subst}
use Rattle.view_text.specs.Scoped.{is_scoped}
use Rattle.view_expand.specs.Found.{IsFound, IsExpansionOf}
use Rattle.view_expand.proofs.Keeping.{looked_up, scoped_up}
use Rattle.view_expand.proofs.found.ExpansionsFound.expansion.Goals as goal

pub returns-in-Ok-clause-expansion : goal.returns-in-Ok-clause-expansion
returns-in-Ok-clause-expansion c = λ db who all.
    let pair = c.in_ok-pair.pair in
    let found = looked_up db who c.self.inside.expansions.entries pair c.in-Some.expansion.now (sym c.in-Some.ensures.value) (subst (IsFound db who) (sym c.self.view_is) all).expansions in
    subst (λ p. IsExpansionOf db who p.0 p.1 c.in-Ok.copy) c.in_ok-pair.ensures (subst (IsExpansionOf db who pair.0 pair.1) (sym c.in-Ok.ensures) found)

pub returns-in-Ok-clause-scoped : goal.returns-in-Ok-clause-scoped
returns-in-Ok-clause-scoped c = ap is_scoped c.in-Ok.ensures ∙ scoped_up c.self.inside.expansions.entries c.in_ok-pair.pair c.in-Some.expansion.now (sym c.in-Some.ensures.value) c.self.invariant
