-- Rows that came, one by one.
use Rattle.std.proofs.Common.{◌≡◌, ◌⊎◌, inl, inr, refl, sym, ap, subst, ◌∙◌, ℕ, zero, suc, ◌+◌, ◌<◌, ◌≤◌, Bool, true, false, List, [], ◌∷◌, ◌++◌, map, length, get_or, nat_lt, nat_le, Option, Some, None, arith, append_assoc, append-nil, if◌then◌else◌}
use Rattle.std.specs.List.Sorted.{IsPermutation}
use Rattle.std.specs.Prelude.{slice_set}
use Rattle.std.proofs.lemmas.List.{map-append}
use Rattle.std.specs.Option.{is_some}
use Rattle.std.proofs.lemmas.Option.{none-some}
use Rattle.std.proofs.lemmas.List.Sorted.{IsPermutation-refl, IsPermutation-trans, IsPermutation-cons, IsPermutation-to_front, IsPermutation-sym}
use Rattle.calculus.specs.declared.probe.Place.{Place}
use Rattle.page_cells.specs.Page.{Slot, line_for, with_row, slots}
use Rattle.page_chain.specs.Filled.{IsFilled}
use Rattle.page_chain.specs.Lying.{Lying, place_of, lying_in, Came}
use Rattle.page_chain.proofs.Slots.{free_line, row_is_placed}

-- none came
pub none_new : (before : Lying) → IsPermutation before (before ++ [])
none_new before = subst (IsPermutation before) (sym (append-nil before)) (IsPermutation-refl before)

pub came_none : (before : Lying) → Came before [] before
came_none before = record { new = []; bytes = refl; all = none_new before }

-- one more came
pub came_more : (before now later : Lying) (rows : List (List ℕ)) (at : Place) (row : List ℕ) → Came before rows now → IsPermutation later ((at, row) ∷ now) → Came before (rows ++ row ∷ []) later
came_more before now later rows at row were one = record {
  new = were.new ++ (at, row) ∷ [];
  bytes = map-append (λ (r : Place × List ℕ). r.1) were.new ((at, row) ∷ []) ∙ ap (λ l. l ++ row ∷ []) were.bytes;
  all =
      IsPermutation-trans later ((at, row) ∷ now) (before ++ (were.new ++ (at, row) ∷ [])) one
      (IsPermutation-trans ((at, row) ∷ now) ((at, row) ∷ before ++ were.new) (before ++ (were.new ++ (at, row) ∷ [])) (IsPermutation-cons (at, row) now (before ++ were.new) were.all)
      (subst (IsPermutation ((at, row) ∷ before ++ were.new)) (append_assoc before were.new ((at, row) ∷ []))
      (IsPermutation-sym ((before ++ were.new) ++ (at, row) ∷ []) ((at, row) ∷ before ++ were.new) (IsPermutation-to_front (before ++ were.new) (at, row)))));
}

-- ---- one page

-- no line of filled ones is empty
not_empty : (rows : List (List ℕ)) (i : ℕ) → i < length (map {A = List ℕ} {B = Slot} Some rows) → get_or (map {A = List ℕ} {B = Slot} Some rows) i None ≡ None → ⊥
not_empty [] i lt none = absurd (omega arith)
not_empty (row ∷ rows) zero lt none = none-some row (sym none)
not_empty (row ∷ rows) (suc i) lt none = not_empty rows i (omega arith) none

-- a row comes behind filled lines
pub row_behind : (rows : List (List ℕ)) (long line : ℕ) (row : List ℕ) → line_for (map Some rows) long ≡ Some line → with_row (map Some rows) (Some line) row ≡ map Some (rows ++ row ∷ [])
row_behind rows long line row e = go (free_line (map Some rows) long line e) (nat_lt line (length (map {A = List ℕ} {B = Slot} Some rows))) refl
  where
    go : ((line < length (map {A = List ℕ} {B = Slot} Some rows)) × (get_or (map {A = List ℕ} {B = Slot} Some rows) line None ≡ None)) ⊎ (line ≡ length (map {A = List ℕ} {B = Slot} Some rows)) → (b : Bool) → nat_lt line (length (map {A = List ℕ} {B = Slot} Some rows)) ≡ b
        → with_row (map Some rows) (Some line) row ≡ map Some (rows ++ row ∷ [])
    go (inl free) b it = absurd (not_empty rows line free.0 free.1)
    go (inr new) true it = absurd (grind (arith, it, new))
    go (inr new) false it =
        ap (λ (b : Bool). if b then slice_set (map Some rows) line (Some row) else map Some rows ++ Some row ∷ []) it ∙ sym (map-append Some rows (row ∷ []))

-- no row came on a page
pub filled_none : (p : List ℕ) → IsFilled p [] p
filled_none p = record { came = λ n. came_none (lying_in n 0 (slots p)); behind = λ old only. only ∙ ap (map Some) (sym (append-nil old)) }

-- one more came on it
pub filled_more : (p q r : List ℕ) (rows : List (List ℕ)) (long line : ℕ) (row : List ℕ) → IsFilled p rows q → line_for (slots q) long ≡ Some line → slots r ≡ with_row (slots q) (Some line) row → IsFilled p (rows ++ row ∷ []) r
filled_more p q r rows long line row were e is = record {
  came = λ n. came_more (lying_in n 0 (slots p)) (lying_in n 0 (slots q)) (lying_in n 0 (slots r)) rows (place_of n line) row (were.came n)
      (subst (λ s. IsPermutation (lying_in n 0 s) ((place_of n line, row) ∷ lying_in n 0 (slots q))) (sym is) (row_is_placed n (slots q) long line row e));
  behind = λ old only.
      is ∙ ap (λ s. with_row s (Some line) row) (were.behind old only)
      ∙ row_behind (old ++ rows) long line row (ap (λ s. line_for s long) (sym (were.behind old only)) ∙ e)
      ∙ ap (map Some) (append_assoc old rows (row ∷ []));
}

-- one more came on it, where a line was found
pub filled_step : (p q r : List ℕ) (rows : List (List ℕ)) (long : ℕ) (o : Option ℕ) (row : List ℕ) → is_some o ≡ true → IsFilled p rows q → o ≡ line_for (slots q) long → slots r ≡ with_row (slots q) o row → IsFilled p (rows ++ row ∷ []) r
filled_step p q r rows long None row some were e is = cc
filled_step p q r rows long (Some line) row some were e is = filled_more p q r rows long line row were (sym e) is

-- a page without lines has room for a row
pub fresh_has_room : (n : ℕ) → n ≤ 1012 → line_for [] n ≡ Some 0
fresh_has_room n le = go (nat_le (n + 4) 1016) refl
  where
    go : (b : Bool) → nat_le (n + 4) 1016 ≡ b → ◌≡◌ {A = Option ℕ} (if b then Some 0 else None) (Some 0)
    go true e = refl
    go false e = absurd (grind (arith, e))
