use Rattle.std.proofs.Common.{◌≡◌, false, take}
use Rattle.calculus.specs.Lists.{has_number}
use Rattle.view_expand.proofs.covering.has_number.Given as goal

abbrev pub invariant-loop-number : goal.invariant-loop-number
invariant-loop-number l = has_number (take l.number-index l.numbers) l.n ≡ false
