use Rattle.std.proofs.Common.{rules}
use Rattle.std.proofs.lemmas.Fn.{always_returns_same}
use Rattle.calculus.specs.Keys.{key_cmp}
use Rattle.catalog_moves.proofs.Placing.{there, absent, put_at, put_between}
use Rattle.catalog_moves.proofs.keys.place_of.Goals as goal

pub returns-in-Ok-clause-there : goal.returns-in-Ok-clause-there
returns-in-Ok-clause-there g c =
    there (λ t. g.T.Keyed.key t) c.args.key.now c.args.items.now c.requires _ c.in-Ok.ensures.bound
    (c.in-Ok.ensures.position (λ t. key_cmp (g.T.Keyed.key t) c.args.key.now) (always_returns_same _ _ _ (λ a r f' k. (search rules, search rules))))

pub returns-in-Ok-clause-put_at : goal.returns-in-Ok-clause-put_at
returns-in-Ok-clause-put_at g c =
    put_at (λ t. g.T.Keyed.key t) c.args.key.now c.args.items.now c.requires _ c.in-Ok.ensures.bound
    (c.in-Ok.ensures.position (λ t. key_cmp (g.T.Keyed.key t) c.args.key.now) (always_returns_same _ _ _ (λ a r f' k. (search rules, search rules))))

pub returns-in-Err-clause-absent : goal.returns-in-Err-clause-absent
returns-in-Err-clause-absent g c =
    absent (λ t. g.T.Keyed.key t) c.args.key.now c.args.items.now c.requires _
    (c.in-Err.ensures.position (λ t. key_cmp (g.T.Keyed.key t) c.args.key.now) (always_returns_same _ _ _ (λ a r f' k. (search rules, search rules))))

pub returns-in-Err-clause-put_before : goal.returns-in-Err-clause-put_before
returns-in-Err-clause-put_before g c =
    put_between (λ t. g.T.Keyed.key t) c.args.key.now c.args.items.now c.requires _ c.in-Err.ensures.bound
    (c.in-Err.ensures.position (λ t. key_cmp (g.T.Keyed.key t) c.args.key.now) (always_returns_same _ _ _ (λ a r f' k. (search rules, search rules))))
