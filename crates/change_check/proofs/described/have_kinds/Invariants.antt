use Rattle.std.proofs.Common.{◌≡◌, true, take}
use Rattle.std.specs.List.{list_all}
use Rattle.calculus.specs.IsDatabase.{is_kind}
use Rattle.change_check.proofs.described.have_kinds.Given as goal

abbrev pub invariant-loop-attr : goal.invariant-loop-attr
invariant-loop-attr l = list_all (λ a. is_kind a.kind) (take l.attr-index l.attrs) ≡ true
