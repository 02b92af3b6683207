use Rattle.std.proofs.Common.{sym, ap, ◌∙◌, map, vec_items}
use Rattle.calculus.specs.Stored.{kinds_at}
use Rattle.view_sizes.proofs.Counting.{vars_is}
use Rattle.quel_refusals.proofs.fitting.query_fits.Goals as goal

pub returns-clause-known : goal.returns-clause-known
returns-clause-known g c = λ db h.
    c.fits_over-fit.ensures.known db (c.in_ok-kinds.ensures.stays _ h)
    (sym (ap (map vec_items) c.deref.ensures.value ∙ c.in_ok-kinds.ensures.known db h ∙ ap (map (kinds_at db)) (c.items.ensures ∙ vars_is c.args.q.now)))
