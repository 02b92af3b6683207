-- Where an item is put in a list in order.
use Rattle.std.proofs.Common.{◌≡◌, refl, ap, ℕ, zero, suc, ◌<◌, List, [], ◌∷◌, length, slice_index_or, slice_set, rules, arith}
use Rattle.std.specs.List.{insert}
use Rattle.std.specs.declared.cmp.Ordering.{Ordering}
use Rattle.std.specs.declared.cmp.Ordering.TheVariants.{Less, Equal, Greater}
use Rattle.calculus.specs.Lists.{insert_by}

-- the item is greater than all before this place
abbrev pub IsAbove : {X : Type 0} → (X → X → Ordering) → X → List X → ℕ → Type 0
IsAbove {X} order x xs i = (k : ℕ) (d : X) → k < i → order x (slice_index_or xs k d) ≡ Greater

pub put_before : {X : Type 0} (order : X → X → Ordering) (x : X) (xs : List X) (i : ℕ) → i < length xs → IsAbove order x xs i
    → order x (slice_index_or xs i x) ≡ Less → insert_by order x xs ≡ insert xs i x
put_before order x [] i within above e = absurd (omega (arith, within))
put_before order x (y ∷ ys) zero within above e = rw (e, insert_by) refl
put_before order x (y ∷ ys) (suc i) within above e =
    let first : order x y ≡ Greater = above 0 x (search rules) in
    rw (first, insert_by) (ap (λ zs. y ∷ zs) (put_before order x ys i (search rules) (λ k d h. above (suc k) d (search rules)) e))

pub put_in_place : {X : Type 0} (order : X → X → Ordering) (x : X) (xs : List X) (i : ℕ) → i < length xs → IsAbove order x xs i
    → order x (slice_index_or xs i x) ≡ Equal → insert_by order x xs ≡ slice_set xs i x
put_in_place order x [] i within above e = absurd (omega (arith, within))
put_in_place order x (y ∷ ys) zero within above e = rw (e, insert_by) refl
put_in_place order x (y ∷ ys) (suc i) within above e =
    let first : order x y ≡ Greater = above 0 x (search rules) in
    rw (first, insert_by) (ap (λ zs. y ∷ zs) (put_in_place order x ys i (search rules) (λ k d h. above (suc k) d (search rules)) e))

pub put_behind : {X : Type 0} (order : X → X → Ordering) (x : X) (xs : List X) → IsAbove order x xs (length xs) → insert_by order x xs ≡ insert xs (length xs) x
put_behind order x [] above = refl
put_behind order x (y ∷ ys) above =
    let first : order x y ≡ Greater = above 0 x (search rules) in
    rw (first, insert_by) (ap (λ zs. y ∷ zs) (put_behind order x ys (λ k d h. above (suc k) d (search rules))))
