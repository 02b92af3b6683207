use Rattle.std.proofs.Common.{◌≡◌, true, take}
use Rattle.std.specs.List.{list_all}
use Rattle.calculus.specs.Name.{is_name}
use Rattle.change_check.proofs.described.are_named.Given as goal

abbrev pub invariant-loop-attr : goal.invariant-loop-attr
invariant-loop-attr l = list_all (λ a. is_name a.name) (take l.attr-index l.attrs) ≡ true
