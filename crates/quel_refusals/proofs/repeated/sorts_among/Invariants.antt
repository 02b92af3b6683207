use Rattle.std.proofs.Common.{◌≡◌, ℕ, List, take}
use Rattle.std.specs.List.{list_any}
use Rattle.std.specs.Str.{bytes_eq}
use Rattle.quel_refusals.proofs.repeated.sorts_among.Given as goal

abbrev pub invariant-loop-target : goal.invariant-loop-target
invariant-loop-target l = (n : List ℕ) → list_any (λ k. bytes_eq n k.now) l.titles.keys ≡ list_any (λ t. bytes_eq t.name n) (take l.target-index l.targets)
