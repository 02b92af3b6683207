use Rattle.std.proofs.Common.{◌≡◌, map, take}
use Rattle.change_check.proofs.described.names_of.Given as goal

abbrev pub invariant-loop-attr : goal.invariant-loop-attr
invariant-loop-attr l = map (λ n. n.now) l.names.items ≡ map (λ a. a.name) (take l.attr-index l.attrs)
