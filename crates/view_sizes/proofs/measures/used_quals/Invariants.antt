use Rattle.std.proofs.Common.{◌≡◌, ◌-◌, ◌^◌, ◌≤◌, min, take}
use Rattle.calculus.specs.Lists.{is_any}
use Rattle.calculus.specs.Used.{used_in_query}
use Rattle.view_sizes.proofs.Counting.{counted}
use Rattle.view_sizes.proofs.measures.used_quals.Given as goal

abbrev pub invariant-loop-measure : goal.invariant-loop-measure
invariant-loop-measure l = record {
  place : l.place ≡ min l.measure-index 255;
  count : l.measure-index ≤ 256 → l.count ≡ min (counted (λ v. is_any (used_in_query v l.query)) (λ m. m.qual) 0 (take l.measure-index l.vars)) (2 ^ 64 - 1);
}
