use Rattle.std.proofs.Common.{◌≡◌, refl, ap, ◌∙◌}
use Rattle.std.specs.Ordering.{ordering_then}
use Rattle.std.specs.declared.cmp.Ordering.{Ordering}
use Rattle.std.specs.declared.cmp.Ordering.TheVariants.{Less, Equal, Greater}
use Rattle.catalog_read.proofs.rows.PartRowCatalogueRow.order.Goals as goal

-- four orders, from the first or from the last
four : (a b c d : Ordering) → ordering_then (ordering_then (ordering_then a b) c) d ≡ ordering_then a (ordering_then b (ordering_then c d))
four Less b c d = refl
four Greater b c d = refl
four Equal Less c d = refl
four Equal Greater c d = refl
four Equal Equal c d = refl

pub returns : goal.returns
returns c =
    c.then-3.ensures
    ∙ ap (λ o. ordering_then o c.cmp-4.result) (c.then-2.ensures ∙ ap (λ o. ordering_then o c.cmp-3.result) c.then.ensures)
    ∙ four c.cmp.result c.cmp-2.result c.cmp-3.result c.cmp-4.result
    ∙ (λ i. ordering_then (c.cmp.ensures i) (ordering_then (c.cmp-2.ensures i) (ordering_then (c.cmp-3.ensures i) (c.cmp-4.ensures i))))
