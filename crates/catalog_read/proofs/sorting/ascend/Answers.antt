use Rattle.std.proofs.Common.{rules}
use Rattle.std.specs.Ordering.{is_lt}
use Rattle.std.proofs.lemmas.List.Sorted.{answers_always}
use Rattle.catalog_read.proofs.Sorted.{neighbours_decide}
use Rattle.catalog_read.proofs.sorting.ascend.Goals as goal

pub returns : goal.returns
returns g c =
    neighbours_decide g.T.CatalogueRow.total g.T.CatalogueRow.said c.args.rows.now c.is_sorted_by.result
    (c.is_sorted_by.ensures.cases (λ a b. is_lt (g.T.CatalogueRow.order (g.T.CatalogueRow.said a) (g.T.CatalogueRow.said b))) (answers_always _ _ _ (λ f a r f' k. search rules)))
