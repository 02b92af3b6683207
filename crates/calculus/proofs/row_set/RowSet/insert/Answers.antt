use Rattle.std.proofs.Common.{sym, ap, ◌∙◌, subst}
use Rattle.calculus.specs.Rows.{Ascends, has, IsPlaceOf}
use Rattle.calculus.proofs.Placing.{Ascends-insert, put-there}
use Rattle.calculus.proofs.row_set.RowSet.insert.Goals as goal

pub invariant_of-self : goal.invariant_of-self
invariant_of-self c =
    let place = subst (λ rows. IsPlaceOf rows c.args.row c.in-Err.place) c.deref.ensures.value c.in-Err.ensures.place in
    Ascends-insert c.args.row _ _ c.in-Err.place _ c.self.invariant place c.insert.ensures.items

pub returns-in-Ok-clause-rows : goal.returns-in-Ok-clause-rows
returns-in-Ok-clause-rows c =
    let there = ap (λ rows. has rows c.args.row) (sym c.self.view_is ∙ sym c.deref.ensures.value) ∙ sym c.in-Ok.ensures.there in
    sym (put-there c.args.row c.args.self.now (subst Ascends c.self.view_is c.self.invariant) there)
