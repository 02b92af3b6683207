-- Whether some item of one list and some item of another pass a test, asked in either order.
use Rattle.std.proofs.Common.{◌≡◌, refl, sym, ap, ◌∙◌, Bool, true, false, ◌&&◌, ◌||◌, List, [], ◌∷◌}
use Rattle.std.specs.List.{list_any}
use Rattle.calculus.specs.declared.query.RelKey.{RelKey}
use Rattle.calculus.specs.Keys.{same_key}
use Rattle.plan_laws.proofs.Orders.{same_key_is, same_key_itself}

none_of_all : {X : Type 0} (xs : List X) → list_any (λ x. false) xs ≡ false
none_of_all [] = refl
none_of_all (x ∷ xs) = none_of_all xs

any_or : {X : Type 0} (f g : X → Bool) (xs : List X) → list_any (λ x. f x || g x) xs ≡ (list_any f xs || list_any g xs)
any_or f g [] = refl
any_or f g (x ∷ xs) = ap (λ b. (f x || g x) || b) (any_or f g xs) ∙ go (f x) (g x) (list_any f xs) (list_any g xs)
  where
    go : (a b c d : Bool) → ((a || b) || (c || d)) ≡ ((a || c) || (b || d))
    go true b c d = refl
    go false true true d = refl
    go false true false d = refl
    go false false true d = refl
    go false false false d = refl

pub any_and : {X : Type 0} (b : Bool) (f : X → Bool) (xs : List X) → list_any (λ x. b && f x) xs ≡ (b && list_any f xs)
any_and true f xs = refl
any_and false f xs = none_of_all xs

pub any_swap : {X Y : Type 0} (f : X → Y → Bool) (xs : List X) (ys : List Y) → list_any (λ x. list_any (f x) ys) xs ≡ list_any (λ y. list_any (λ x. f x y) xs) ys
any_swap f [] ys = sym (none_of_all ys)
any_swap f (x ∷ xs) ys = ap (λ b. list_any (f x) ys || b) (any_swap f xs ys) ∙ sym (any_or (f x) (λ y. list_any (λ x. f x y) xs) ys)

-- two keys are the same either way round
pub either_way : (a b : RelKey) → same_key a b ≡ same_key b a
either_way a b = go (same_key a b) refl (same_key b a) refl
  where
    turned : (x y : RelKey) → same_key x y ≡ true → same_key y x ≡ true
    turned x y e = ap (same_key y) (same_key_is x y e) ∙ same_key_itself y

    go : (t : Bool) → same_key a b ≡ t → (u : Bool) → same_key b a ≡ u → t ≡ u
    go true e true f = refl
    go true e false f = sym (turned a b e) ∙ f
    go false e true f = sym e ∙ turned b a f
    go false e false f = refl
