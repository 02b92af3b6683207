use Rattle.std.proofs.Common.{◌<◌}
use Rattle.std.specs.List.{AllByRecursion}
use Rattle.heap_am.specs.Near.{IsRising}
use Rattle.heap_am.proofs.near.taken.Given as goal

abbrev pub invariant-near : goal.invariant-near
invariant-near l = record {
  rising : IsRising 0 l.used l.numbers.items;
  below : AllByRecursion (λ k. k < l.least) l.numbers.items;
}
