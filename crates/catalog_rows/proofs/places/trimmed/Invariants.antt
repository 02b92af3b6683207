use Rattle.std.proofs.Common.{◌≡◌, length}
use Rattle.calculus.specs.Text.{trimmed}
use Rattle.catalog_rows.proofs.places.trimmed.Given as goal

abbrev pub invariant-blanks : goal.invariant-blanks
invariant-blanks l = trimmed l.rest ≡ trimmed l.bytes

abbrev pub decreases-blanks : goal.decreases-blanks
decreases-blanks l = length l.rest
