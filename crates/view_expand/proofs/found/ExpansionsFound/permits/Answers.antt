use Rattle.std.proofs.Common.{sym, ◌∙◌, subst}
use Rattle.view_expand.specs.Found.{IsFound}
use Rattle.view_expand.proofs.Keeping.{permits_up}
use Rattle.view_expand.proofs.found.ExpansionsFound.permits.Goals as goal

pub returns-in-Some : goal.returns-in-Some
returns-in-Some c = λ db who all.
    c.items.ensures ∙ permits_up db c.self.inside.permits.entries c.args.key.now c.in-Some.permits.now (sym c.in-Some.ensures.value) (subst (IsFound db who) (sym c.self.view_is) all).permits
