use Rattle.std.proofs.Common.{◌≡◌, ◌++◌, take, map}
use Rattle.std.specs.List.{enumerate_from}
use Rattle.calculus.specs.Catalogue.{attribute_row}
use Rattle.plain_base.proofs.catalogue_rows.push_attributes.Given as goal

abbrev pub invariant-loop-i : goal.invariant-loop-i
invariant-loop-i l = l.rows.items ≡ l.fn.rows.items ++ map (λ p. attribute_row l.key p.0 p.1) (enumerate_from 1 (take l.i l.attrs))
