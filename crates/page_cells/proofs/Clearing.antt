-- A page of which one line is made empty.
use Rattle.std.proofs.Common.{◌≡◌, ◌≢◌, ◌⊎◌, inl, inr, refl, ℕ, zero, suc, ◌+◌, ◌*◌, ◌<◌, ◌≤◌, List, [], ◌∷◌, Option, Some, None, length, get_or, slice_index, sym, ap, subst, ◌∙◌, arith}
use Rattle.std.proofs.Math.ListN.{set}
use Rattle.page_cells.specs.Page.{Slot, lines, low, size, next_page, number_at, slots, IsPage}
use Rattle.page_cells.proofs.Rows.{number_same, line_same, SameLine, row_kept, row_none, row_some, still_page}
use Rattle.page_cells.proofs.Lists.{slots_set, slots_at, slots_past}
use Rattle.page_cells.proofs.Following.{next_same}

module _ (p q : List ℕ) (i : ℕ) (page : IsPage p) (long : length q ≡ length p) (lt : i < lines p) (zero_size : number_at q (10 + 4 * i) ≡ 0)
    (others : (j : ℕ) → (j < 10 + 4 * i) ⊎ (10 + 4 * i + 2 ≤ j) → slice_index q j ≡ slice_index p j) where
  lines_q : lines q ≡ lines p
  lines_q = number_same p q 4 (others 4 (inl (omega arith))) (others 5 (inl (omega arith)))

  low_q : low q ≡ low p
  low_q = number_same p q 6 (others 6 (inl (omega arith))) (others 7 (inl (omega arith)))

  apart_from_i : (k j : ℕ) → k ≢ i → 8 + 4 * k ≤ j → j < 12 + 4 * k → (j < 10 + 4 * i) ⊎ (10 + 4 * i + 2 ≤ j)
  apart_from_i k j other a b = grind arith

  line_q : (k : ℕ) → k ≢ i → SameLine p q k
  line_q k other = line_same p q k (λ j a b. others j (apart_from_i k j other a b))

  same_or_not : (k : ℕ) → (k ≡ i) ⊎ (k ≢ i)
  same_or_not k = grind arith

  pub clearing_slots : slots q ≡ set (slots p) i None
  clearing_slots = slots_set p q i None lines_q lt (row_none q i zero_size)
      (λ k low_k other. row_kept p q k page long (λ j le. others j (inr (omega (arith, page.behind)))) low_k (line_q k other))

  pub clearing_page : IsPage q
  clearing_page = still_page p q 0 page long (omega (arith, page.behind, lines_q, low_q)) (omega (arith, low_q))
      (λ k low_k more. elim (same_or_not k) [
        | inl same ↦ absurd (omega (arith, subst (λ x. 0 < size q x) same more, zero_size))
        | inr other ↦ inl (omega (arith, lines_q, low_k), line_q k other)
      ])

  pub clearing_next : next_page q ≡ next_page p
  clearing_next = next_same p q (λ j small. others j (inl (omega arith)))

-- a line that has a row is not empty
pub not_cleared : {A : Type 0} (p : List ℕ) (i : ℕ) → i < lines p → 0 < size p i → get_or (slots p) i None ≡ None → A
not_cleared {A} p i lt some none = elim (let e = sym none ∙ slots_at p i lt ∙ row_some p i some in none_some _ e) [ ]
  where
    none_some : (row : List ℕ) → ◌≡◌ {A = Option (List ℕ)} None (Some row) → ⊥
    none_some row e = cc

set_none : (s : List Slot) (i : ℕ) → get_or s i None ≡ None → s ≡ set s i None
set_none [] i none = refl
set_none (x ∷ s) zero none = ap (λ y. y ∷ s) none
set_none (x ∷ s) (suc i) none = ap (λ t. x ∷ t) (set_none s i none)

-- a line that is empty, or past the last, is as it would be cleared
pub cleared_before : (p : List ℕ) (i : ℕ) → (i < lines p → size p i ≡ 0) → slots p ≡ set (slots p) i None
cleared_before p i empty = set_none (slots p) i (elim (in_or_past i (lines p)) [
  | inl lt ↦ slots_at p i lt ∙ row_none p i (empty lt)
  | inr le ↦ slots_past p i le
])
  where
    in_or_past : (i n : ℕ) → (i < n) ⊎ (n ≤ i)
    in_or_past i n = grind arith
