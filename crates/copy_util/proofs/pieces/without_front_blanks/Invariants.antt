use Rattle.std.proofs.Common.{◌≡◌, length}
use Rattle.quel_meaning.specs.Columns.{without_front_blanks}
use Rattle.copy_util.proofs.pieces.without_front_blanks.Given as goal

abbrev pub invariant-blanks : goal.invariant-blanks
invariant-blanks l = without_front_blanks l.rest ≡ without_front_blanks l.bytes

abbrev pub decreases-blanks : goal.decreases-blanks
decreases-blanks l = length l.rest
