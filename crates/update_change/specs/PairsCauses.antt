-- Why pairs make no change of rows.
use Rattle.std.specs.Prelude.{◌≡◌, ◌<◌, List, length, IsTrue, IsFalse, ⊤}
use Rattle.calculus.specs.declared.change.Pair.{Pair}
use Rattle.calculus.specs.Limits.{most_rows}
use Rattle.calculus.specs.Rows.{Row}
use Rattle.calculus.specs.Replacement.{after, contended}
use Rattle.update_change.specs.declared.pairs_fault.ChangeFault.{ChangeFault}
use Rattle.update_change.specs.declared.pairs_fault.ChangeFault.TheVariants.{Contended, TooMany, OutOfMemory}
use Rattle.update_change.specs.Contention.{IsLeastContention}

-- the cause of a fault: an old row has different new rows, and the fault carries the least contention; or else more rows would stand than a relation may have, and it carries their number; want of memory has none
abbrev pub IsCause : List Row → List Pair → ChangeFault → Type 0
IsCause rows ps (Contended old first second) = IsTrue (contended ps) × IsLeastContention ps old first second
IsCause rows ps (TooMany count) = IsFalse (contended ps) × (count ≡ length (after rows ps)) × (most_rows < count)
IsCause rows ps OutOfMemory = ⊤

-- the cause of a fault that the pairs alone have: an old row has different new rows, and the fault carries the least contention; want of memory has none
abbrev pub IsContention : List Pair → ChangeFault → Type 0
IsContention ps (Contended old first second) = IsTrue (contended ps) × IsLeastContention ps old first second
IsContention ps (TooMany count) = ⊥
IsContention ps OutOfMemory = ⊤
