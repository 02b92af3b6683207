use Rattle.std.proofs.Common.{◌≡◌, ◌++◌, map}
use Rattle.catalog_read.proofs.parts_as_changes.push_all.Given as goal

abbrev pub invariant-items : goal.invariant-items
invariant-items g l = l.changes.items ++ map (λ x. g.T.Made.made x) l.item-iterator.rest.items ≡ l.fn.changes.items ++ map (λ x. g.T.Made.made x) l.fn.items
