use Rattle.std.proofs.Common.{◌≡◌, ◌++◌, take, map}
use Rattle.calculus.specs.Catalogue.{relation_row}
use Rattle.plain_base.proofs.catalogue_rows.push_relation_rows.Given as goal

abbrev pub invariant-loop-item : goal.invariant-loop-item
invariant-loop-item g l = l.rows.items ≡ l.fn.rows.items ++ map relation_row (map g.T.Known.known (take l.item-index l.items))
