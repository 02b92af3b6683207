use Rattle.std.proofs.Common.{◌≡◌, length}
use Rattle.calculus.specs.Keys.{same_key}
use Rattle.calculus.specs.Lists.{differ_by}
use Rattle.change_check.proofs.destroying.keys_differ.Given as goal

abbrev pub invariant-keys : goal.invariant-keys
invariant-keys l = differ_by same_key l.keys ≡ differ_by same_key l.rest

abbrev pub decreases-keys : goal.decreases-keys
decreases-keys l = length l.rest
