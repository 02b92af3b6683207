-- Steps of reading that were taken, and that were not.
use Rattle.std.specs.Prelude.{◌≡◌, ℕ, ◌⊎◌, List, Ok, Err}
use Rattle.std.proofs.Common.{inl, inr, refl, ap}
use Rattle.tree_words.specs.Codec.{Reading, ◌>>=◌}

pub bind_ok : {A B : Type 0} (r : Reading A) (f : A × List ℕ → Reading B) (y : B × List ℕ) → (r >>= f) ≡ Ok y → (x : A × List ℕ) × (r ≡ Ok x) × (f x ≡ Ok y)
bind_ok (Ok x) f y e = (x, refl, e)
bind_ok (Err left) f y e = absurd cc

pub bind_err : {A B : Type 0} (r : Reading A) (f : A × List ℕ → Reading B) (left : ℕ) → (r >>= f) ≡ Err left → (r ≡ Err left) ⊎ ((x : A × List ℕ) × (r ≡ Ok x) × (f x ≡ Err left))
bind_err (Ok x) f left e = inr (x, refl, e)
bind_err (Err l) f left e = let h : l ≡ left = cc in inl (ap (λ k. Err k) h)

pub ok_value : {A : Type 0} (x y : A × List ℕ) → let l : Reading A = Ok x in let r : Reading A = Ok y in l ≡ r → (x.0 ≡ y.0) × (x.1 ≡ y.1)
ok_value x y e = let h : x ≡ y = cc in (ap (λ p. p.0) h, ap (λ p. p.1) h)

pub ok_err : {A : Type 0} (x : A × List ℕ) (left : ℕ) → let l : Reading A = Ok x in let r : Reading A = Err left in l ≡ r → ⊥
ok_err x left e = cc

pub err_place : {A : Type 0} (k left : ℕ) → let l : Reading A = Err k in let r : Reading A = Err left in l ≡ r → left ≡ k
err_place k left e = cc
