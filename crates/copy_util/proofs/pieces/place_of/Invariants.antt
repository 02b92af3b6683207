use Rattle.std.proofs.Common.{◌≡◌, false, take}
use Rattle.calculus.specs.Lists.{has_number}
use Rattle.copy_util.proofs.pieces.place_of.Given as goal

abbrev pub invariant-loop-i : goal.invariant-loop-i
invariant-loop-i l = has_number (take l.i l.bytes) l.stop ≡ false
