-- Different items that are all among others are no more than these.
use Rattle.std.proofs.Common.{◌≡◌, refl, sym, ap, ◌∙◌, true≢false, suc, ◌≤◌, Bool, true, false, ◌||◌, not, cond, List, [], ◌∷◌, filter, length, arith}
use Rattle.std.specs.List.{list_any}
use Rattle.std.proofs.lemmas.Bool.{and_parts}
use Rattle.calculus.specs.Lists.{differ_by}
use Rattle.quel_meaning.proofs.Each.{Each}

module _ {X : Type 0} (same : X → X → Bool) (itself : (x : X) → same x x ≡ true) (exact : (x y : X) → same x y ≡ true → x ≡ y) where
  -- the items but for one
  abbrev without : X → List X → List X
  without x ys = filter (λ y. not (same x y)) ys

  few_without : (x : X) (ys : List X) → length (without x ys) ≤ length ys
  few_without x [] = omega arith
  few_without x (y ∷ ys) = go (same x y) (few_without x ys)
    where
      go : (b : Bool) → length (without x ys) ≤ length ys → length (cond (not b) (y ∷ without x ys) (without x ys)) ≤ suc (length ys)
      go true h = omega (arith, h)
      go false h = omega (arith, h)

  one_less : (x : X) (ys : List X) → list_any (same x) ys ≡ true → suc (length (without x ys)) ≤ length ys
  one_less x [] h = absurd (true≢false (sym h))
  one_less x (y ∷ ys) h = go (same x y) h (few_without x ys) (one_less x ys)
    where
      go : (b : Bool) → (b || list_any (same x) ys) ≡ true → length (without x ys) ≤ length ys → (list_any (same x) ys ≡ true → suc (length (without x ys)) ≤ length ys)
          → suc (length (cond (not b) (y ∷ without x ys) (without x ys))) ≤ suc (length ys)
      go true h few later = omega (arith, few)
      go false h few later = let less = later h in omega (arith, less)

  -- another item stays
  stays : (x z : X) (ys : List X) → same x z ≡ false → list_any (same z) ys ≡ true → list_any (same z) (without x ys) ≡ true
  stays x z [] apart h = h
  stays x z (y ∷ ys) apart h = go (same x y) refl (same z y) refl h (stays x z ys apart)
    where
      go : (b : Bool) → same x y ≡ b → (c : Bool) → same z y ≡ c → (c || list_any (same z) ys) ≡ true → (list_any (same z) ys ≡ true → list_any (same z) (without x ys) ≡ true)
          → list_any (same z) (cond (not b) (y ∷ without x ys) (without x ys)) ≡ true
      go true e true f h later = absurd (true≢false (sym (ap (same x) (exact z y f) ∙ e) ∙ apart))
      go true e false f h later = later h
      go false e true f h later = ap (λ c. c || list_any (same z) (without x ys)) f
      go false e false f h later = ap (λ c. c || list_any (same z) (without x ys)) f ∙ later h

  not_any : (b : Bool) → not b ≡ true → b ≡ false
  not_any true h = absurd (true≢false (sym h))
  not_any false h = refl

  all_stay : (x : X) (xs ys : List X) → list_any (same x) xs ≡ false → Each (λ z. list_any (same z) ys ≡ true) xs → Each (λ z. list_any (same z) (without x ys) ≡ true) xs
  all_stay x [] ys apart h = tt
  all_stay x (z ∷ xs) ys apart h = go (same x z) refl apart (all_stay x xs ys)
    where
      go : (b : Bool) → same x z ≡ b → (b || list_any (same x) xs) ≡ false → (list_any (same x) xs ≡ false → Each (λ z. list_any (same z) ys ≡ true) xs → Each (λ z. list_any (same z) (without x ys) ≡ true) xs)
          → Each (λ z. list_any (same z) (without x ys) ≡ true) (z ∷ xs)
      go true e apart later = absurd (true≢false apart)
      go false e apart later = (stays x z ys e h.0, later apart h.1)

  pub no_more : (xs ys : List X) → differ_by same xs ≡ true → Each (λ x. list_any (same x) ys ≡ true) xs → length xs ≤ length ys
  no_more [] ys differ h = omega arith
  no_more (x ∷ xs) ys differ h =
      let two = and_parts (not (list_any (same x) xs)) (differ_by same xs) differ in
      let later = no_more xs (without x ys) two.1 (all_stay x xs ys (not_any (list_any (same x) xs) two.0) h.1) in
      let less = one_less x ys h.0 in
      omega (arith, later, less)
