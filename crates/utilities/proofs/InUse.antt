-- Some view outside some keys names one of them where, asked key by key, one of the answers is yes.
use Rattle.std.proofs.Common.{◌≡◌, refl, sym, ap, ◌∙◌, Bool, true, false, ◌&&◌, ◌||◌, not, List, [], ◌∷◌}
use Rattle.std.specs.List.{list_any}
use Rattle.calculus.specs.declared.query.RelKey.{RelKey}
use Rattle.calculus.specs.Database.{Db, View}
use Rattle.calculus.specs.Keys.{same_key, has_key}
use Rattle.calculus.specs.QueryParts.{vars_of}
use Rattle.base_trait.specs.Known.{is_named_by_view}
use Rattle.quel_meaning.specs.Planned.{is_in_use}
use Rattle.plan_laws.proofs.Orders.{same_key_is, same_key_itself}

-- ---- whether some item of one list and some item of another pass a test, asked in either order

none_of_all : {X : Type 0} (xs : List X) → list_any (λ x. false) xs ≡ false
none_of_all [] = refl
none_of_all (x ∷ xs) = none_of_all xs

any_or : {X : Type 0} (f g : X → Bool) (xs : List X) → list_any (λ x. f x || g x) xs ≡ (list_any f xs || list_any g xs)
any_or f g [] = refl
any_or f g (x ∷ xs) = ap (λ b. (f x || g x) || b) (any_or f g xs) ∙ go (f x) (g x) (list_any f xs) (list_any g xs)
  where
    go : (a b c d : Bool) → ((a || b) || (c || d)) ≡ ((a || c) || (b || d))
    go true b c d = refl
    go false true true d = refl
    go false true false d = refl
    go false false true d = refl
    go false false false d = refl

any_and : {X : Type 0} (b : Bool) (f : X → Bool) (xs : List X) → list_any (λ x. b && f x) xs ≡ (b && list_any f xs)
any_and true f xs = refl
any_and false f xs = none_of_all xs

any_swap : {X Y : Type 0} (f : X → Y → Bool) (xs : List X) (ys : List Y) → list_any (λ x. list_any (f x) ys) xs ≡ list_any (λ y. list_any (λ x. f x y) xs) ys
any_swap f [] ys = sym (none_of_all ys)
any_swap f (x ∷ xs) ys = ap (λ b. list_any (f x) ys || b) (any_swap f xs ys) ∙ sym (any_or (f x) (λ y. list_any (λ x. f x y) xs) ys)

-- two keys are the same either way round
either_way : (a b : RelKey) → same_key a b ≡ same_key b a
either_way a b = go (same_key a b) refl (same_key b a) refl
  where
    turned : (x y : RelKey) → same_key x y ≡ true → same_key y x ≡ true
    turned x y e = ap (same_key y) (same_key_is x y e) ∙ same_key_itself y

    go : (t : Bool) → same_key a b ≡ t → (u : Bool) → same_key b a ≡ u → t ≡ u
    go true e true f = refl
    go true e false f = sym (turned a b e) ∙ f
    go false e true f = sym e ∙ turned b a f
    go false e false f = refl

-- ---- the keys

-- some view outside the keys names one of them, as it is asked of the views, where it is asked of each key
pub used_where_named : (db : Db) (rels : List RelKey) → list_any (is_named_by_view db rels) rels ≡ is_in_use db rels
used_where_named db rels =
    any_swap (λ key v. not (has_key rels v.info.key) && has_key (vars_of v.query) key) rels db.views
    ∙ ap (λ (f : View → Bool). list_any f db.views) (λ i v. any_and (not (has_key rels v.info.key)) (λ key. has_key (vars_of v.query) key) rels i)
    ∙ ap (λ (f : View → Bool). list_any f db.views) (λ i v. not (has_key rels v.info.key) && any_swap same_key rels (vars_of v.query) i)
    ∙ ap (λ (same : RelKey → RelKey → Bool). list_any (λ v. not (has_key rels v.info.key) && list_any (λ k. list_any (λ key. same key k) rels) (vars_of v.query)) db.views) (λ i a b. either_way a b i)
