use Rattle.std.proofs.Common.{ℕ, List, length}
use Rattle.plain_base.specs.Shown.{database_of}
use Rattle.catalog_read.specs.Parts.{Parts}
use Rattle.catalog_read.specs.Applying.{IsLeft}
use Rattle.catalog_read.proofs.applying.apply_all.Given as goal

abbrev pub decreases-rounds : goal.decreases-rounds
decreases-rounds l = length l.left.items

abbrev pub invariant-rounds : goal.invariant-rounds
invariant-rounds l = (dba : List ℕ) (parts : Parts) → IsLeft dba l.fn.changes.items (database_of l.fn.plain) parts → IsLeft dba l.left.items (database_of l.plain) parts
