use Rattle.std.proofs.Common.{◌≡◌, false, take}
use Rattle.std.specs.List.{list_any}
use Rattle.calculus.specs.Keys.{same_key}
use Rattle.change_check.proofs.destroying.is_among.Given as goal

abbrev pub invariant-loop-other : goal.invariant-loop-other
invariant-loop-other l = list_any (same_key l.key) (take l.other-index l.keys) ≡ false
