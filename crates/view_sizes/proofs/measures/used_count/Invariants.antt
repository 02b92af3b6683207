use Rattle.std.proofs.Common.{◌≡◌, ◌-◌, ◌^◌, ◌≤◌, min, take}
use Rattle.calculus.specs.Lists.{is_any}
use Rattle.calculus.specs.Used.{used_in_query}
use Rattle.view_sizes.proofs.Counting.{counted}
use Rattle.view_sizes.proofs.measures.used_count.Given as goal

abbrev pub invariant-loop-key : goal.invariant-loop-key
invariant-loop-key l = record {
  place : l.place ≡ min l._key-index 255;
  count : l._key-index ≤ 256 → l.count ≡ min (counted (λ v. is_any (used_in_query v l.query)) (λ m. 1) 0 (take l._key-index l._key-items)) (2 ^ 64 - 1);
}
