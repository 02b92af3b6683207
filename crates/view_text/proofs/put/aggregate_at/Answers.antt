use Rattle.std.proofs.Common.{◌≡◌, ap, subst, ◌∙◌, IfOk}
use Rattle.std.proofs.lemmas.Option.{slice_get_past}
use Rattle.calculus.specs.declared.query.QTerm.TheVariants.{Agg}
use Rattle.calculus.proofs.Constants.{found_at}
use Rattle.view_text.proofs.Slots.{aggregate_there, aggregate_missing}
use Rattle.view_text.proofs.put.aggregate_at.Goals as goal

pub returns-in-Ok : goal.returns-in-Ok
returns-in-Ok c =
    let h = c.in-Some.ensures.lookup in
    let same : c.in-Ok.aggregate ≡ c.in-Some.aggregate.now = subst (λ r. IfOk r (λ copy. copy ≡ c.in-Some.aggregate.now)) c.in-Ok.ensures c.copy.ensures in
    ap Agg same ∙ aggregate_there c.args.aggregates.now c.args.slot c.in-Some.aggregate.now (found_at _ _ _ h.3.0 h.1)

pub returns-in-None : goal.returns-in-None
returns-in-None c = rw (aggregate_missing c.args.aggregates.now c.args.slot (slice_get_past _ _ c.in-None.ensures.lookup.3)) c.without_value.ensures
