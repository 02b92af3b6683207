use Rattle.std.proofs.Common.{sym, ap, ◌∙◌, Some, rules}
use Rattle.std.proofs.lemmas.Fn.{always_returns_same}
use Rattle.calculus.specs.Keys.{key_cmp}
use Rattle.plain_base.proofs.SearchByKey.{found_at, found_none}
use Rattle.plain_base.proofs.look_up.under.Goals as goal

pub returns-in-Ok : goal.returns-in-Ok
returns-in-Ok g c =
    let at = c.in-Ok.ensures.position (λ t. key_cmp (g.T.Known.known t).key c.args.key.now) (always_returns_same _ _ _ (λ a r f' k. (search rules, search rules))) in
    ap Some c.index-items-place.is
    ∙ sym (found_at (λ t. (g.T.Known.known t).key) c.args.key.now c.args.items.now c.requires c.in-Ok.place c.in-Ok.ensures.bound c.index-items-place.result (at c.index-items-place.result))

pub returns-in-Err : goal.returns-in-Err
returns-in-Err g c =
    sym (found_none (λ t. (g.T.Known.known t).key) c.args.key.now c.args.items.now c.requires _
    (c.in-Err.ensures.position (λ t. key_cmp (g.T.Known.known t).key c.args.key.now) (always_returns_same _ _ _ (λ a r f' k. (search rules, search rules)))))
