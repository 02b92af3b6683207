use Rattle.std.proofs.Common.{ap, ◌∙◌, ◌||◌}
use Rattle.std.specs.List.Sorted.{IsStrictlySortedBy}
use Rattle.calculus.specs.declared.query.RelKey.{RelKey}
use Rattle.calculus.specs.Keys.{key_cmp, has_key, same_key}
use Rattle.catalog_moves.specs.Files.{is_in}
use Rattle.catalog_moves.proofs.Placing.{up_put, either_way}
use Rattle.catalog_moves.proofs.Tables.{key_put}
use Rattle.catalog_moves.proofs.key_set.KeySet.insert.Goals as goal

pub invariant_of-self : goal.invariant_of-self
invariant_of-self c = record {
  up = either_way (IsStrictlySortedBy key_cmp) c.put_key.result c.args.self.now.keys.items _ c.put_key.new.keys.items c.put_key.ensures.put c.put_key.ensures.same (up_put (λ (k : RelKey). k) _ _ c.args.self.now.up) c.args.self.now.up;
}

pub returns-in-Ok-clause-put : goal.returns-in-Ok-clause-put
unfolding is_in
returns-in-Ok-clause-put c other =
    ap (λ keys. has_key keys other) c.in-Ok.ensures.put
    ∙ key_put _ c.args.self.now.keys.items other
    ∙ ap (λ k. same_key k other || has_key c.args.self.now.keys.items other) c.in_ok-copy.ensures

pub returns-in-Err-clause-same : goal.returns-in-Err-clause-same
unfolding is_in
returns-in-Err-clause-same c other = ap (λ keys. has_key keys other) c.in-Err.ensures.same
