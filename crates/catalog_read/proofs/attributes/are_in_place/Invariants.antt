use Rattle.std.proofs.Common.{◌≡◌, drop}
use Rattle.page_chain.specs.Lists.{are_from}
use Rattle.catalog_read.proofs.attributes.are_in_place.Given as goal

abbrev pub invariant-loop-column : goal.invariant-loop-column
invariant-loop-column l = record {
  counted : l.place ≡ l.column-index;
  so_far : are_from (λ c. c.place) l.place (drop l.column-index l.columns) ≡ are_from (λ c. c.place) 0 l.columns;
}
