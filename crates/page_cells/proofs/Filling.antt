-- A row put into an empty line, and an empty line that is added.
use Rattle.std.proofs.Common.{◌≡◌, ◌≢◌, ◌⊎◌, inl, inr, ℕ, ◌+◌, ◌-◌, ◌*◌, ◌<◌, ◌≤◌, List, [], ◌∷◌, ◌++◌, Some, None, length, slice_index, slice_range, sym, ap, subst, ◌∙◌, arith}
use Rattle.std.proofs.Math.ListN.{set}
use Rattle.page_cells.specs.Page.{lines, low, size, offset, row_at, next_page, number_at, slots, IsPage}
use Rattle.page_cells.proofs.Rows.{number_same, range_same, line_same, SameLine, SameAbove, KeptOrBelow, row_kept, row_none, row_some, still_page}
use Rattle.page_cells.proofs.Lists.{slots_set, slots_more}
use Rattle.page_cells.proofs.Following.{next_same}

same_or_not : (k i : ℕ) → (k ≡ i) ⊎ (k ≢ i)
same_or_not k i = grind arith

-- one: the row is there; two: the rows begin at it; three: so does the line; q: the line has its length
module _ (p one two three q : List ℕ) (i lo n : ℕ) (row : List ℕ) (page : IsPage p) (long1 : length one ≡ length p) (long : length q ≡ length p) (lt : i < lines p) (some : 0 < n)
    (room : 8 + 4 * lines p + n ≤ low p) (is_lo : lo ≡ low p - n) (there : slice_range one lo (lo + n) ≡ row)
    (off1 : (j : ℕ) → (j < lo) ⊎ (lo + n ≤ j) → slice_index one j ≡ slice_index p j)
    (low2 : number_at two 6 ≡ lo) (off2 : (j : ℕ) → (j < 6) ⊎ (6 + 2 ≤ j) → slice_index two j ≡ slice_index one j)
    (offset3 : number_at three (8 + 4 * i) ≡ lo) (off3 : (j : ℕ) → (j < 8 + 4 * i) ⊎ (8 + 4 * i + 2 ≤ j) → slice_index three j ≡ slice_index two j)
    (size4 : number_at q (10 + 4 * i) ≡ n) (off4 : (j : ℕ) → (j < 10 + 4 * i) ⊎ (10 + 4 * i + 2 ≤ j) → slice_index q j ≡ slice_index three j) where
  -- a byte behind the lines
  behind_lines : (j : ℕ) → 12 + 4 * i ≤ j → slice_index q j ≡ slice_index one j
  behind_lines j le = off4 j (inr (omega arith)) ∙ off3 j (inr (omega arith)) ∙ off2 j (inr (omega arith))

  line_byte : (k j : ℕ) → k < lines p → k ≢ i → 8 + 4 * k ≤ j → j < 12 + 4 * k → slice_index q j ≡ slice_index p j
  line_byte k j low_k other from to = off4 j (grind arith) ∙ off3 j (grind arith) ∙ off2 j (inr (omega arith)) ∙ off1 j (inl (omega arith))

  head_byte : (j : ℕ) → j < 6 → slice_index q j ≡ slice_index p j
  head_byte j small = off4 j (inl (omega arith)) ∙ off3 j (inl (omega arith)) ∙ off2 j (inl small) ∙ off1 j (inl (omega (arith, page.behind)))

  lines_q : lines q ≡ lines p
  lines_q = number_same p q 4 (head_byte 4 (omega arith)) (head_byte 5 (omega arith))

  low_q : low q ≡ lo
  low_q = number_same two q 6 (off4 6 (inl (omega arith)) ∙ off3 6 (inl (omega arith))) (off4 7 (inl (omega arith)) ∙ off3 7 (inl (omega arith))) ∙ low2

  offset_i : offset q i ≡ lo
  offset_i = number_same three q (8 + 4 * i) (off4 (8 + 4 * i) (inl (omega arith))) (off4 (8 + 4 * i + 1) (inl (omega arith))) ∙ offset3

  line_q : (k : ℕ) → k < lines p → k ≢ i → SameLine p q k
  line_q k low_k other = line_same p q k (λ j a b. line_byte k j low_k other a b)

  above : SameAbove p q
  above j le = behind_lines j (omega arith) ∙ off1 j (inr (omega arith))

  row_i : row_at q i ≡ Some row
  row_i = row_some q i (omega (arith, size4)) ∙ ap Some ((λ t. slice_range q (offset_i t) (offset_i t + size4 t)) ∙ range_same one q lo (lo + n) (long ∙ sym long1) (λ j a b. behind_lines j (omega arith)) ∙ there)

  pub filling_slots : slots q ≡ set (slots p) i (Some row)
  filling_slots = slots_set p q i (Some row) lines_q lt row_i (λ k low_k other. row_kept p q k page long above low_k (line_q k low_k other))

  each : (k : ℕ) → k < lines q → 0 < size q k → KeptOrBelow p q i k
  each k low_k more = elim (same_or_not k i) [
    | inl same ↦ inr (same, subst (λ x. low q ≤ offset q x) (sym same) (omega (arith, low_q, offset_i)), subst (λ x. offset q x + size q x ≤ low p) (sym same) (omega (arith, offset_i, size4, is_lo, room)))
    | inr other ↦ let below : k < lines p = omega (arith, lines_q, low_k) in inl (below, line_q k below other)
  ]

  pub filling_page : IsPage q
  filling_page = still_page p q i page long (omega (arith, lines_q, low_q, is_lo, room)) (omega (arith, low_q, is_lo)) each

  pub filling_next : next_page q ≡ next_page p
  filling_next = next_same p q (λ j small. head_byte j (omega arith))

  pub filling_low : low q + n ≡ low p
  filling_low = omega (arith, low_q, is_lo, room)

-- one: the new line m is empty; q: it is counted
module _ (p one q : List ℕ) (m : ℕ) (is_m : m ≡ lines p) (page : IsPage p) (long : length q ≡ length p) (room : 12 + 4 * lines p ≤ low p)
    (size1 : number_at one (10 + 4 * m) ≡ 0) (off1 : (j : ℕ) → (j < 10 + 4 * m) ⊎ (10 + 4 * m + 2 ≤ j) → slice_index one j ≡ slice_index p j)
    (lines2 : number_at q 4 ≡ m + 1) (off2 : (j : ℕ) → (j < 4) ⊎ (4 + 2 ≤ j) → slice_index q j ≡ slice_index one j) where
  low_r : low q ≡ low p
  low_r = number_same p q 6 (off2 6 (inr (omega arith)) ∙ off1 6 (inl (omega arith))) (off2 7 (inr (omega arith)) ∙ off1 7 (inl (omega arith)))

  line_r : (k : ℕ) → k < lines p → SameLine p q k
  line_r k lt = line_same p q k (λ j a b. off2 j (inr (omega arith)) ∙ off1 j (inl (omega arith)))

  pub adding_size : size q (lines p) ≡ 0
  adding_size = subst (λ x. size q x ≡ 0) is_m (number_same one q (10 + 4 * m) (off2 (10 + 4 * m) (inr (omega arith))) (off2 (10 + 4 * m + 1) (inr (omega arith))) ∙ size1)

  pub adding_slots : slots q ≡ slots p ++ None ∷ []
  adding_slots = slots_more p q None (omega (arith, lines2, is_m)) (row_none q (lines p) adding_size)
      (λ k lt. row_kept p q k page long (λ j le. off2 j (inr (omega arith)) ∙ off1 j (inr (omega arith))) lt (line_r k lt))

  each_r : (k : ℕ) → k < lines q → 0 < size q k → KeptOrBelow p q 0 k
  each_r k low_k more = elim (same_or_not k (lines p)) [
    | inl same ↦ absurd (omega (arith, subst (λ x. 0 < size q x) same more, adding_size))
    | inr other ↦ let below : k < lines p = grind (arith, lines2, low_k, other, is_m) in inl (below, line_r k below)
  ]

  pub adding_page : IsPage q
  adding_page = still_page p q 0 page long (omega (arith, lines2, low_r, room, is_m)) (omega (arith, low_r)) each_r

  pub adding_next : next_page q ≡ next_page p
  adding_next = next_same p q (λ j small. off2 j (inl small) ∙ off1 j (inl (omega arith)))
