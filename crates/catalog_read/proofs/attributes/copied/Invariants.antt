use Rattle.std.proofs.Common.{◌≡◌, map, take}
use Rattle.catalog_read.proofs.attributes.copied.Given as goal

abbrev pub invariant-loop-column : goal.invariant-loop-column
invariant-loop-column l = l.attrs.items ≡ map (λ c. c.attr) (take l.column-index l.columns)
