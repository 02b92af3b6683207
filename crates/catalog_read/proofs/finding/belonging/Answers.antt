use Rattle.std.proofs.Common.{rules}
use Rattle.std.specs.Ordering.{is_eq, is_lt}
use Rattle.std.proofs.lemmas.Fn.{always_returns_same}
use Rattle.catalog_read.proofs.Sides.{parted_front, run_is}
use Rattle.catalog_read.proofs.finding.belonging.Goals as goal

pub returns : goal.returns
returns g c =
    let f = g.T.CatalogueRow.said in
    let side = g.T.CatalogueRow.side c.args.owner.now in
    let splits = g.T.CatalogueRow.splits c.args.owner.now in
    run_is g.T.CatalogueRow.total f side splits c.args.rows.now c.requires
    c.partition_point-start.result c.partition_point-start.ensures.bound
    (c.partition_point-start.ensures.partitioned (λ x. is_lt (side (f x))) (always_returns_same _ _ _ (λ a r f' k. (search rules, search rules))) (parted_front g.T.CatalogueRow.total f side splits c.args.rows.now c.requires))
    c.split_at.result.1.now c.split_at.ensures.back
    c.partition_point-many.result c.partition_point-many.ensures.bound
    (c.partition_point-many.ensures.partitioned (λ x. is_eq (side (f x))) (always_returns_same _ _ _ (λ a r f' k. (search rules, search rules))))
    c.split_at-2.result.0.now c.split_at-2.ensures.front
