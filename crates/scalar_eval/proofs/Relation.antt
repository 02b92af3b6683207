-- The test of matching and the relation agree.
use Rattle.std.proofs.Common.{◌≡◌, ◌↔◌, refl, ap, ◌∙◌, ℕ, Bool, true, false, ◌&&◌, ◌||◌, ◌==◌, List, [], ◌∷◌, ◌++◌, IsTrue, rules}
use Rattle.calculus.specs.Pattern.{Item, Byte, AnyByte, AnyText, Class, Fits, Matches, fits_items, matches, items, in_class, some_rest}

both_true : (a b : Bool) → (a && b) ≡ true → (a ≡ true) × (b ≡ true)
both_true true b h = (refl, h)
both_true false b h = absurd (cc h)

or_right : (a b : Bool) → b ≡ true → (a || b) ≡ true
or_right true b h = refl
or_right false b h = h

-- a split of the list at whose rest the test holds
abbrev Split : (List ℕ → Bool) → List ℕ → Type 0
Split f xs = (front : List ℕ) × (rest : List ℕ) × (xs ≡ front ++ rest) × (f rest ≡ true)

split_by : (f : List ℕ → Bool) (x : ℕ) (xs : List ℕ) (t : Bool) → f (x ∷ xs) ≡ t → (t || some_rest f xs) ≡ true → (some_rest f xs ≡ true → Split f xs) → Split f (x ∷ xs)
split_by f x xs true e h k = ([], x ∷ xs, refl, e)
split_by f x xs false e h k = let s = k h in (x ∷ s.0, s.1, ap (λ ys. x ∷ ys) s.2, s.3)

split_there : (f : List ℕ → Bool) (xs : List ℕ) → some_rest f xs ≡ true → Split f xs
split_there f [] h = ([], [], refl, h)
split_there f (x ∷ xs) h = split_by f x xs (f (x ∷ xs)) refl h (split_there f xs)

rest_there : (f : List ℕ → Bool) (front rest : List ℕ) → f rest ≡ true → some_rest f (front ++ rest) ≡ true
rest_there f [] [] h = h
rest_there f [] (x ∷ xs) h = ap (λ u. u || some_rest f xs) h
rest_there f (y ∷ ys) rest h = or_right (f (y ∷ (ys ++ rest))) (some_rest f (ys ++ rest)) (rest_there f ys rest h)

sound : (is : List Item) (xs : List ℕ) → fits_items is xs ≡ true → Fits is xs
unfolding fits_items
sound [] [] h = refl
sound [] (x ∷ xs) h = cc h
sound (Byte b ∷ is) [] h = absurd (cc h)
sound (Byte b ∷ is) (x ∷ xs) h =
    let p = both_true (x == b) (fits_items is xs) h in
    let e : x ≡ b = search (rules, p.0) in
    (xs, ap (λ y. y ∷ xs) e, sound is xs p.1)
sound (AnyByte ∷ is) [] h = absurd (cc h)
sound (AnyByte ∷ is) (x ∷ xs) h = (x, xs, refl, sound is xs h)
sound (AnyText ∷ is) xs h = let s = split_there (fits_items is) xs h in (s.0, s.1, s.2, sound is s.1 s.3)
sound (Class rs ∷ is) [] h = absurd (cc h)
sound (Class rs ∷ is) (x ∷ xs) h = let p = both_true (in_class rs x) (fits_items is xs) h in (x, xs, refl, p.0, sound is xs p.1)

complete : (is : List Item) (xs : List ℕ) → Fits is xs → fits_items is xs ≡ true
unfolding fits_items
complete [] xs h = ap (fits_items []) h
complete (Byte b ∷ is) xs h =
    let e : (b == b) ≡ true = search rules in
    ap (fits_items (Byte b ∷ is)) h.1 ∙ ap (λ u. u && fits_items is h.0) e ∙ complete is h.0 h.2
complete (AnyByte ∷ is) xs h = ap (fits_items (AnyByte ∷ is)) h.2 ∙ complete is h.1 h.3
complete (AnyText ∷ is) xs h = ap (fits_items (AnyText ∷ is)) h.2 ∙ rest_there (fits_items is) h.0 h.1 (complete is h.1 h.3)
complete (Class rs ∷ is) xs h =
    ap (fits_items (Class rs ∷ is)) h.2 ∙ ap (λ u. u && fits_items is h.1) h.3 ∙ complete is h.1 h.4

pub test_is_relation : (pattern text : List ℕ) → IsTrue (matches pattern text) ↔ Matches pattern text
unfolding matches Matches
test_is_relation pattern text = (sound (items pattern) text, complete (items pattern) text)
