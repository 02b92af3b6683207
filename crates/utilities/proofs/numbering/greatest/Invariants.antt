use Rattle.std.proofs.Common.{◌≡◌, length}
use Rattle.std.specs.Prelude.{max}
use Rattle.quel_meaning.specs.Planned.{greatest}
use Rattle.utilities.proofs.numbering.greatest.Given as goal

abbrev pub invariant-loop-first : goal.invariant-loop-first
invariant-loop-first l = greatest l.numbers ≡ max l.found (greatest l.rest)

abbrev pub decreases-loop-first : goal.decreases-loop-first
decreases-loop-first l = length l.rest
