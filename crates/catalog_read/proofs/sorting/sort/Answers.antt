use Rattle.std.proofs.Common.{rules}
use Rattle.std.specs.Ordering.{is_lt}
use Rattle.std.proofs.lemmas.List.Sorted.{answers_always, ranks_by}
use Rattle.catalog_read.proofs.sorting.sort.Goals as goal

pub returns-clause-sorted : goal.returns-clause-sorted
returns-clause-sorted g c =
    c.sort_unstable_by.ensures.sorted (λ a b. is_lt (g.T.CatalogueRow.order (g.T.CatalogueRow.said a) (g.T.CatalogueRow.said b))) (ranks_by g.T.CatalogueRow.total g.T.CatalogueRow.said)
    (answers_always _ _ _ (λ f a r f' k. search rules))
