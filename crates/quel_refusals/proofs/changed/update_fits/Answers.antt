use Rattle.std.proofs.Common.{◌∙◌, ap, map, slice_get, Some}
use Rattle.std.specs.List.{list_all, zip}
use Rattle.calculus.specs.Kinds.{comparable}
use Rattle.ovqp.proofs.Parts.{targets_is}
use Rattle.quel_refusals.proofs.Fits.{assigned}
use Rattle.quel_refusals.proofs.changed.update_fits.Goals as goal

pub returns-clause-known : goal.returns-clause-known
returns-clause-known g c = λ db h w.
    let kinds = c.in_ok-kinds.ensures.known db (c.in_ok-query_fits.ensures.stays _ h) in
    assigned db c.args.u.now c.items.result.now c.deref.result.now c.assignments_fit.result c.in_ok-query_fits.field-0 (c.items.ensures ∙ targets_is c.args.u.now.query)
    (c.deref.ensures.value ∙ kinds) w
    (c.assignments_fit.ensures ∙ ap (λ ps. list_all (λ p. comparable (Some p.0.kind) p.1) (zip c.items.result.now (map (slice_get c.deref.result.now) ps))) c.items-2.ensures)
    (c.in_ok-query_fits.ensures.known db h) c.if-not-branch.false
