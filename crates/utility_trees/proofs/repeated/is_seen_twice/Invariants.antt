use Rattle.std.proofs.Common.{◌≡◌, true, map, take}
use Rattle.calculus.specs.Keys.{same_key}
use Rattle.calculus.specs.Lists.{differ_by}
use Rattle.utility_trees.proofs.repeated.is_seen_twice.Given as goal

abbrev pub invariant-loop-key : goal.invariant-loop-key
invariant-loop-key l = record {
  seen : map (λ k. k.now) l.seen.keys ≡ take l.key-index l.keys;
  differ : differ_by same_key (take l.key-index l.keys) ≡ true;
}
