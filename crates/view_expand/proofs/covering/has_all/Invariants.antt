use Rattle.std.proofs.Common.{◌≡◌, true, take}
use Rattle.std.specs.List.{list_all}
use Rattle.calculus.specs.Lists.{has_number}
use Rattle.view_expand.proofs.covering.has_all.Given as goal

abbrev pub invariant-loop-attr : goal.invariant-loop-attr
invariant-loop-attr l = list_all (has_number l.numbers) (take l.attr-index l.attrs) ≡ true
