-- The front of a list that is put together.
use Rattle.std.proofs.Common.{◌≡◌, ℕ, suc, List, [], ◌∷◌, ◌++◌, length, take, refl, ap}

pub append_none : {A : Type 0} (xs : List A) → xs ++ [] ≡ xs
append_none [] = refl
append_none (x ∷ xs) = ap (λ ys. x ∷ ys) (append_none xs)

pub take_front : (front behind : List ℕ) → take (length front) (front ++ behind) ≡ front
take_front [] behind = take_none behind
  where
    take_none : (xs : List ℕ) → take 0 xs ≡ []
    take_none [] = refl
    take_none (x ∷ xs) = refl
take_front (x ∷ front) behind = ap (λ xs. x ∷ xs) (take_front front behind)

pub take_one_more : (front : List ℕ) (b : ℕ) (after : List ℕ) → take (suc (length front)) (front ++ (b ∷ after)) ≡ front ++ (b ∷ [])
take_one_more [] b after = ap (λ xs. b ∷ xs) (take_front [] after)
take_one_more (x ∷ front) b after = ap (λ xs. x ∷ xs) (take_one_more front b after)
