use Rattle.std.proofs.Common.{◌≡◌, refl, sym, ap, ◌∙◌, subst, Bool, true, false, ◌&&◌, List, IfOk}
use Rattle.calculus.specs.declared.schema.Attr.{Attr}
use Rattle.calculus.specs.Database.{is_relation}
use Rattle.calculus.specs.IsDatabase.{keys_stand}
use Rattle.calculus.specs.Keys.{key_of}
use Rattle.calculus.specs.Lists.{is_any}
use Rattle.calculus.specs.Stored.{attrs_at}
use Rattle.change_laws.specs.Fit.{index_is_fit, key_is_free}
use Rattle.change_check.proofs.Parts.{stops, goes_on, and_then}
use Rattle.change_check.proofs.indexes.index_has_parts.Goals as goal

pub returns-then-not-some_keys_stand-clause-known : goal.returns-then-not-some_keys_stand-clause-known
unfolding index_is_fit
returns-then-not-some_keys_stand-clause-known g c = λ db e there attrs.
    let stand : (is_any c.args.keys.now && keys_stand (attrs_at db c.args.rel.now) c.args.keys.now) ≡ false =
    ap (λ (attrs : List Attr). is_any c.args.keys.now && keys_stand attrs c.args.keys.now) attrs ∙ sym c.some_keys_stand.ensures ∙ c.if-not-some_keys_stand.true in
    goes_on (is_relation db c.args.rel.now) _ false there
    (and_then (is_any c.args.keys.now) (keys_stand (attrs_at db c.args.rel.now) c.args.keys.now) _ false (stops _ _ false stand refl))

pub returns-clause-known : goal.returns-clause-known
unfolding index_is_fit
returns-clause-known g c = λ db e there attrs.
    let stand : (is_any c.args.keys.now && keys_stand (attrs_at db c.args.rel.now) c.args.keys.now) ≡ true =
    ap (λ (attrs : List Attr). is_any c.args.keys.now && keys_stand attrs c.args.keys.now) attrs ∙ sym c.some_keys_stand.ensures ∙ c.if-not-some_keys_stand.false in
    let all = goes_on (is_relation db c.args.rel.now) _ (key_is_free db (key_of c.args.rel.now.owner c.args.name.now)) there
    (and_then (is_any c.args.keys.now) (keys_stand (attrs_at db c.args.rel.now) c.args.keys.now) _ _ (goes_on (is_any c.args.keys.now && keys_stand (attrs_at db c.args.rel.now) c.args.keys.now) (key_is_free db (key_of c.args.rel.now.owner c.args.name.now)) _ stand refl)) in
    subst (λ (b : Bool). IfOk c.key_is_free.result (λ fit. fit ≡ b)) (ap (key_is_free db) c.in_ok-key.ensures ∙ all)
    (c.key_is_free.ensures.known db e)
