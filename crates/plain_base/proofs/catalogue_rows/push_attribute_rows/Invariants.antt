use Rattle.std.proofs.Common.{◌≡◌, ◌++◌, take, map}
use Rattle.std.specs.List.{flat_map}
use Rattle.calculus.specs.Catalogue.{attribute_rows}
use Rattle.plain_base.proofs.catalogue_rows.push_attribute_rows.Given as goal

abbrev pub invariant-loop-item : goal.invariant-loop-item
invariant-loop-item g l = l.rows.items ≡ l.fn.rows.items ++ flat_map attribute_rows (map g.T.Known.known (take l.item-index l.items))
