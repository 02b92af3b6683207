use Rattle.std.proofs.Common.{◌∙◌, not, sym, ap, subst}
use Rattle.std.specs.List.Sorted.{IsStrictlySortedBy}
use Rattle.std.proofs.lemmas.List.Kept.{IsStrictlySortedBy-filter}
use Rattle.std.proofs.lemmas.Map.Views.{any-filter_same}
use Rattle.calculus.specs.Keys.{has_key, key_cmp, same_key}
use Rattle.stored_database.proofs.Orders.{same_key_is}
use Rattle.catalog_moves.specs.Files.{is_in}
use Rattle.catalog_moves.proofs.Tables.{same_key_swap}
use Rattle.catalog_moves.proofs.key_set.KeySet.remove.Goals as goal

pub invariant_of-self : goal.invariant_of-self
invariant_of-self c = record { up = subst (IsStrictlySortedBy key_cmp) (sym c.leave_key.ensures) (IsStrictlySortedBy-filter key_cmp _ c.args.self.now.keys.items c.args.self.now.up) }

pub returns : goal.returns
unfolding is_in
returns c other =
    ap (λ keys. has_key keys other) c.leave_key.ensures
    ∙ any-filter_same (same_key other) (λ k. not (same_key k c.args.key.now)) (not (same_key c.args.key.now other))
    (λ k h. ap (λ x. not (same_key x c.args.key.now)) (sym (same_key_is other k h)) ∙ ap not (same_key_swap other c.args.key.now)) c.args.self.now.keys.items
