-- What is kept by a test whose answers are known, whatever it notes from one call to the next.
use Rattle.std.proofs.Common.{◌≡◌, refl, ap, ◌∙◌, Bool, true, false, cond, List, [], ◌∷◌, filter, length, arith}
use Rattle.std.specs.List.{items_where_true}
use Rattle.std.specs.List.Retain.{ReturnsInTurn, IsFiltered}

module _ {X F : Type 0} (R : F → X → Bool → F → Type 0) (test : X → Bool) (I : F → Type 0) (h : (f : F) (x : X) (b : Bool) (g : F) → I f → R f x b g → (b ≡ test x) × I g) where
  first_known : (x : X) (xs : List X) (bs : List Bool) (b : Bool) → b ≡ test x → items_where_true bs xs ≡ filter test xs
      → items_where_true (b ∷ bs) (x ∷ xs) ≡ filter test (x ∷ xs)
  first_known x xs bs true e rest = ap (λ l. x ∷ l) rest ∙ ap (λ a. cond a (x ∷ filter test xs) (filter test xs)) e
  first_known x xs bs false e rest = rest ∙ ap (λ a. cond a (x ∷ filter test xs) (filter test xs)) e

  all_known : (bs : List Bool) (xs : List X) (f q : F) → I f → length bs ≡ length xs → ReturnsInTurn R f bs xs q → items_where_true bs xs ≡ filter test xs
  all_known [] [] f q i e t = refl
  all_known [] (x ∷ xs) f q i e t = absurd (omega (arith, e))
  all_known (b ∷ bs) [] f q i e t = absurd t
  all_known (b ∷ bs) (x ∷ xs) f q i e t =
      let one = h f x b t.0 i t.1 in
      first_known x xs bs b one.0 (all_known bs xs t.0 q one.1 (omega (arith, e)) t.2)

  pub filter_known : (f : F) → I f → (xs ys : List X) → IsFiltered R f xs ys → ys ≡ filter test xs
  filter_known f i xs ys k = k.4 ∙ all_known k.0 xs f k.1 i k.2 k.3
