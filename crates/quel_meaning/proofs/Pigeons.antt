-- Different numbers below a number are at most so many.
use Rattle.std.proofs.Common.{◌≡◌, refl, sym, subst, ℕ, ◌≤◌, ◌<◌, nat_eq, Bool, true, false, ◌||◌, not, List, [], ◌∷◌, length}
use Rattle.std.specs.List.{IsDistinct, list_any}
use Rattle.std.proofs.lemmas.Bool.{eqb-true}
use Rattle.std.proofs.lemmas.Map.Steps.{length-le_from_distinct_below}
use Rattle.calculus.specs.Lists.{differ_by}
use Rattle.quel_meaning.proofs.Each.{Each, left, right, not_left, not_right}

pub not_true : (b : Bool) → not b ≡ true → b ≡ false
not_true true h = absurd (cc h)
not_true false h = refl

pub none_same : {X : Type 0} (test : X → Bool) (xs : List X) → list_any test xs ≡ false → Each (λ x. test x ≡ false) xs
none_same test [] h = tt
none_same test (x ∷ xs) h = (not_left _ _ h, none_same test xs (not_right _ _ h))

pub distinct : {X : Type 0} (same : X → X → Bool) (xs : List X) → differ_by same xs ≡ true → IsDistinct same xs
unfolding IsDistinct
distinct same [] h = tt
distinct same (x ∷ xs) h = (none_same (same x) xs (not_true _ (left _ _ h)), distinct same xs (right _ _ h))

one_below : (n : ℕ) (xs : List ℕ) → Each (λ x. x < n) xs → (q : ℕ) → list_any (nat_eq q) xs ≡ true → q < n
one_below n [] h q k = absurd (cc k)
one_below n (x ∷ xs) h q k = go (one_below n xs h.1 q) (nat_eq q x) refl k
  where
    go : (list_any (nat_eq q) xs ≡ true → q < n) → (b : Bool) → nat_eq q x ≡ b → (b || list_any (nat_eq q) xs) ≡ true → q < n
    go later true e k = subst (λ m. m < n) (sym (eqb-true q x e)) h.0
    go later false e k = later k

pub at_most : (n : ℕ) (xs : List ℕ) → Each (λ x. x < n) xs → differ_by nat_eq xs ≡ true → length xs ≤ n
at_most n xs h k = length-le_from_distinct_below xs n (distinct nat_eq xs k) (one_below n xs h)
