-- The variables of a statement's query differ, and each has its place.
use Rattle.std.proofs.Common.{◌≡◌, refl, sym, ap, ◌∙◌, subst, ℕ, suc, ◌+◌, ◌<◌, Bool, true, false, ◌||◌, not, cond, List, [], ◌∷◌, map, length, Some, None, arith}
use Rattle.std.specs.List.{filter, list_any, enumerate_from, position, position_or_len}
use Rattle.std.specs.Option.{unwrap_or}
use Rattle.std.specs.Str.{bytes_eq}
use Rattle.std.proofs.lemmas.Bool.{lt-ltb}
use Rattle.calculus.specs.Lists.{differ_by}
use Rattle.quel_meaning.specs.WrittenParts.{once}
use Rattle.quel_meaning.specs.WrittenTree.{Vars, var_place}
use Rattle.quel_meaning.proofs.Each.{Each, each_to, left, right, and, not_so}
use Rattle.quel_meaning.proofs.FitMade.{both_hold}
use Rattle.quel_meaning.proofs.Keys.{same_bytes, bytes_same}
use Rattle.quel_meaning.proofs.Pigeons.{not_true, none_same}

-- ---- they differ

other_way : (m n : List ℕ) (b : Bool) → bytes_eq m n ≡ b → b ≡ false → bytes_eq n m ≡ false
other_way m n b e h = go (bytes_eq n m) refl
  where
    go : (c : Bool) → bytes_eq n m ≡ c → c ≡ false
    go false f = refl
    go true f = absurd (cc (bytes_same m n (sym (same_bytes n m f)), e, h))

gone : (n : List ℕ) (xs : List (List ℕ)) → list_any (bytes_eq n) (filter (λ m. not (bytes_eq m n)) xs) ≡ false
gone n [] = refl
gone n (x ∷ xs) = go (bytes_eq x n) refl (gone n xs)
  where
    go : (b : Bool) → bytes_eq x n ≡ b → list_any (bytes_eq n) (filter (λ m. not (bytes_eq m n)) xs) ≡ false
        → list_any (bytes_eq n) (cond (not b) (x ∷ filter (λ m. not (bytes_eq m n)) xs) (filter (λ m. not (bytes_eq m n)) xs)) ≡ false
    go true e h = h
    go false e h = rw (other_way x n false e refl) h

none_comes : {X : Type 0} (test p : X → Bool) (xs : List X) → list_any test xs ≡ false → list_any test (filter p xs) ≡ false
none_comes test p [] h = refl
none_comes test p (x ∷ xs) h = go (none_comes test p xs) (test x) (p x) refl h
  where
    go : (list_any test xs ≡ false → list_any test (filter p xs) ≡ false) → (b c : Bool) → test x ≡ b → (b || list_any test xs) ≡ false
        → list_any test (cond c (x ∷ filter p xs) (filter p xs)) ≡ false
    go later true c e h = absurd (cc h)
    go later false true e h = rw e (later h)
    go later false false e h = later h

still_differ : {X : Type 0} (same : X → X → Bool) (p : X → Bool) (xs : List X) → differ_by same xs ≡ true → differ_by same (filter p xs) ≡ true
still_differ same p [] h = refl
still_differ same p (x ∷ xs) h = go (still_differ same p xs (right _ _ h)) (p x)
  where
    go : differ_by same (filter p xs) ≡ true → (b : Bool) → differ_by same (cond b (x ∷ filter p xs) (filter p xs)) ≡ true
    go later true = and _ _ (not_so _ (none_comes (same x) p xs (not_true _ (left _ _ h)))) later
    go later false = later

pub once_differs : (names : List (List ℕ)) → differ_by bytes_eq (once names) ≡ true
once_differs [] = refl
once_differs (n ∷ ns) = and _ _ (not_so _ (gone n (once ns))) (still_differ bytes_eq (λ m. not (bytes_eq m n)) (once ns) (once_differs ns))

-- ---- their places

first_below : {X : Type 0} (p : X → Bool) (xs : List X) → list_any p xs ≡ true → position_or_len p xs < length xs
first_below p [] h = absurd (cc h)
first_below p (x ∷ xs) h = go (first_below p xs) (p x) h
  where
    go : (list_any p xs ≡ true → position_or_len p xs < length xs) → (b : Bool) → (b || list_any p xs) ≡ true → cond (not b) (1 + position_or_len p xs) 0 < suc (length xs)
    go later true h = omega arith
    go later false h = omega (arith, later h)

place_is : {X : Type 0} (p : X → Bool) (xs : List X) → list_any p xs ≡ true → unwrap_or (position p xs) 0 ≡ position_or_len p xs
place_is p xs h = ap (λ b. unwrap_or (cond b (Some (position_or_len p xs)) None) 0) (lt-ltb _ _ (first_below p xs h))

-- the variable is one of these
abbrev IsIn : Vars → List ℕ → Type 0
IsIn vars v = list_any (λ x. bytes_eq x v) vars ≡ true

in_all : (vars : Vars) → Each (IsIn vars) vars
in_all [] = tt
in_all (v ∷ vars) = (rw (bytes_same v v refl) refl, each_to _ _ (λ w h. later w (bytes_eq v w) h) vars (in_all vars))
  where
    later : (w : List ℕ) (b : Bool) → IsIn vars w → (b || list_any (λ x. bytes_eq x w) vars) ≡ true
    later w true h = refl
    later w false h = h

pub first_place : (v : List ℕ) (vars : Vars) → var_place (v ∷ vars) v ≡ 0
first_place v vars = place_is (λ x. bytes_eq x v) (v ∷ vars) (rw (bytes_same v v refl) refl) ∙ rw (bytes_same v v refl) refl

later_place : (v w : List ℕ) (vars : Vars) → bytes_eq v w ≡ false → IsIn vars w → var_place (v ∷ vars) w ≡ suc (var_place vars w)
later_place v w vars e h =
    place_is (λ x. bytes_eq x w) (v ∷ vars) (rw e h)
    ∙ ap (λ b. cond (not b) (1 + position_or_len (λ x. bytes_eq x w) vars) 0) e
    ∙ one_more (position_or_len (λ x. bytes_eq x w) vars)
    ∙ ap suc (sym (place_is (λ x. bytes_eq x w) vars h))
  where
    one_more : (n : ℕ) → 1 + n ≡ suc n
    one_more n = omega arith

moved : {X : Type 0} (Q : ℕ → Type 0) (k : ℕ) (xs : List X) → Each (λ (p : ℕ × X). Q (suc p.0)) (enumerate_from k xs) → Each (λ (p : ℕ × X). Q p.0) (enumerate_from (suc k) xs)
moved Q k [] h = tt
moved Q k (x ∷ xs) h =
    let next : suc (k + 1) ≡ suc k + 1 = omega arith in
    (h.0, subst (λ n. Each (λ p. Q p.0) (enumerate_from n xs)) next (moved Q (k + 1) xs h.1))

-- what holds at the place of each of some variables that differ holds of all numbers of places
pub at_places : {X : Type 0} (Q : ℕ → Type 0) (f : List ℕ → X) (vars : Vars) → differ_by bytes_eq vars ≡ true → Each (λ v. Q (var_place vars v)) vars
    → Each (λ (p : ℕ × X). Q p.0) (enumerate_from 0 (map f vars))
at_places Q f [] d h = tt
at_places Q f (v ∷ vars) d h = (
  subst Q (first_place v vars) h.0,
  moved Q 0 (map f vars)
      (at_places (λ n. Q (suc n)) f vars (right _ _ d)
      (both_hold (λ w. Q (var_place (v ∷ vars) w)) (λ w. (bytes_eq v w ≡ false) × IsIn vars w) (λ w. Q (suc (var_place vars w)))
      (λ w q e. subst Q (later_place v w vars e.0 e.1) q) vars h.1
      (both_hold (λ w. bytes_eq v w ≡ false) (IsIn vars) (λ w. (bytes_eq v w ≡ false) × IsIn vars w) (λ w e i. (e, i)) vars (none_same (bytes_eq v) vars (not_true _ (left _ _ d))) (in_all vars)))),
)
