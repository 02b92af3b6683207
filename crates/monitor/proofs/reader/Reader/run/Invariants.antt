use Rattle.std.proofs.Common.{◌≡◌, ℕ, List, Some, length}
use Rattle.fault_io.specs.Files.{Files}
use Rattle.monitor.specs.Reading.{reads_rest}
use Rattle.monitor.proofs.reader.Reader.run.Given as goal

abbrev pub invariant-line : goal.invariant-line
invariant-line g l =
    (g.H.Shelf.files l.shelf ≡ g.H.Shelf.files l.fn.shelf)
    × (g.H.Shelf.faults l.shelf ≡ g.H.Shelf.faults l.fn.shelf)
    × ((known : Files) → g.H.Shelf.files l.fn.shelf ≡ Some known → (script : List ℕ) → reads_rest l.fn.self known l.fn.out.items script ≡ reads_rest l.self known l.out.items script)

abbrev pub decreases-line : goal.decreases-line
decreases-line g l = length l.self.parts
