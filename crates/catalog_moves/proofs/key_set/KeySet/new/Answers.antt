use Rattle.std.proofs.Common.{sym, ap, subst}
use Rattle.std.specs.List.Sorted.{IsStrictlySortedBy}
use Rattle.calculus.specs.Keys.{key_cmp, has_key}
use Rattle.catalog_moves.specs.Files.{is_in}
use Rattle.catalog_moves.proofs.key_set.KeySet.new.Goals as goal

pub invariant_of-result : goal.invariant_of-result
unfolding IsStrictlySortedBy
invariant_of-result c = record { up = subst (IsStrictlySortedBy key_cmp) (sym c.new.ensures.items) tt }

pub returns : goal.returns
unfolding is_in
returns c key = ap (λ keys. has_key keys key) c.new.ensures.items
