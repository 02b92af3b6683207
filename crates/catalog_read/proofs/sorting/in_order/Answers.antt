use Rattle.std.proofs.Common.{◌∙◌, sym, ap, subst, Some, map}
use Rattle.std.specs.List.Sorted.{IsStrictlySortedBy}
use Rattle.catalog_read.proofs.Sorted.{sorted_ascend, sorted_twice}
use Rattle.catalog_read.proofs.sorting.in_order.Goals as goal

pub returns-then-ascend : goal.returns-then-ascend
returns-then-ascend g c =
    let f = g.T.CatalogueRow.said in
    ap (λ l. Some (map f l)) c.of.ensures
    ∙ sym (sorted_ascend g.T.CatalogueRow.total f c.args.rows.items c.sort.new.rows.items c.sort.ensures.same
    (subst (λ l. IsStrictlySortedBy g.T.CatalogueRow.order (map f l)) c.deref.ensures.value (c.ascend.ensures.0 c.if-ascend.true)))

pub returns-else-ascend : goal.returns-else-ascend
returns-else-ascend g c =
    let f = g.T.CatalogueRow.said in
    sym (sorted_twice g.T.CatalogueRow.total f c.args.rows.items c.sort.new.rows.items c.sort.ensures.same c.sort.ensures.sorted
    (λ up. cc (c.if-ascend.false, c.ascend.ensures.1 (subst (λ l. IsStrictlySortedBy g.T.CatalogueRow.order (map f l)) (sym c.deref.ensures.value) up))))
