-- Places of variables and of what they range over.
use Rattle.std.proofs.Common.{◌≡◌, refl, sym, ap, ◌∙◌, ℕ, suc, ◌+◌, ◌≤◌, ◌<◌, arith, Bool, true, false, ◌||◌, not, cond, List, [], ◌∷◌, map, length, nat_lt, Option, Some, None}
use Rattle.std.specs.List.{list_any, position, position_or_len, slice_get}
use Rattle.std.specs.Option.{unwrap_or}
use Rattle.std.specs.Str.{bytes_eq}
use Rattle.std.proofs.lemmas.Bool.{lt-ltb, ltb-true}
use Rattle.calculus.specs.declared.schema.RelInfo.{RelInfo}
use Rattle.quel_check.specs.Known.{is_among}
use Rattle.quel_meaning.specs.WrittenTree.{Vars, var_place}
use Rattle.quel_meaning.proofs.Keys.{same_bytes}

-- in a list of at most 256 items each place is a byte
pub within : {X : Type 0} (p : X → Bool) (xs : List X) → length xs ≤ 256 → unwrap_or (position p xs) 0 ≤ 255
within p xs h = go (nat_lt (position_or_len p xs) (length xs)) refl
  where
    go : (b : Bool) → nat_lt (position_or_len p xs) (length xs) ≡ b → unwrap_or (cond b (Some (position_or_len p xs)) None) 0 ≤ 255
    go true e = let lt : position_or_len p xs < length xs = ltb-true _ _ e in omega (arith, lt, h)
    go false e = omega arith

-- ---- what stands at a variable's place

first_below : {X : Type 0} (p : X → Bool) (xs : List X) → list_any p xs ≡ true → position_or_len p xs < length xs
first_below p [] h = absurd (cc h)
first_below p (x ∷ xs) h = go (first_below p xs) (p x) h
  where
    go : (list_any p xs ≡ true → position_or_len p xs < length xs) → (b : Bool) → (b || list_any p xs) ≡ true → cond (not b) (1 + position_or_len p xs) 0 < suc (length xs)
    go later true h = omega arith
    go later false h = omega (arith, later h)

place_is : {X : Type 0} (p : X → Bool) (xs : List X) → list_any p xs ≡ true → unwrap_or (position p xs) 0 ≡ position_or_len p xs
place_is p xs h = ap (λ b. unwrap_or (cond b (Some (position_or_len p xs)) None) 0) (lt-ltb _ _ (first_below p xs h))

one_more : (n : ℕ) → 1 + n ≡ suc n
one_more n = omega arith

stands : (f : List ℕ → Option RelInfo) (vars : Vars) (infos : List RelInfo) (var : List ℕ) → map f vars ≡ map Some infos → is_among vars var ≡ true
    → slice_get infos (position_or_len (λ v. bytes_eq v var) vars) ≡ f var
stands f [] infos var e h = absurd (cc h)
stands f (v ∷ vars) [] var e h = absurd (cc e)
stands f (v ∷ vars) (info ∷ infos) var e h = go (bytes_eq v var) refl h (let later : map f vars ≡ map Some infos = cc e in stands f vars infos var later)
  where
    go : (b : Bool) → bytes_eq v var ≡ b → (b || is_among vars var) ≡ true
        → (is_among vars var ≡ true → slice_get infos (position_or_len (λ w. bytes_eq w var) vars) ≡ f var)
        → slice_get (info ∷ infos) (cond (not b) (1 + position_or_len (λ w. bytes_eq w var) vars) 0) ≡ f var
    go true s h later = let first : f v ≡ Some info = cc e in sym first ∙ ap f (same_bytes v var s)
    go false s h later = ap (slice_get (info ∷ infos)) (one_more (position_or_len (λ w. bytes_eq w var) vars)) ∙ later h

-- what a variable ranges over stands at its place
pub at_place : (f : List ℕ → Option RelInfo) (vars : Vars) (infos : List RelInfo) (var : List ℕ) → map f vars ≡ map Some infos → is_among vars var ≡ true
    → slice_get infos (var_place vars var) ≡ f var
at_place f vars infos var e h = ap (slice_get infos) (place_is (λ v. bytes_eq v var) vars h) ∙ stands f vars infos var e h
