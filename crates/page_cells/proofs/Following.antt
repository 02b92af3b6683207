-- A page whose next page is another.
use Rattle.std.proofs.Common.{◌≡◌, inl, ℕ, ◌+◌, ◌*◌, ◌<◌, ◌≤◌, List, length, slice_index, arith}
use Rattle.page_cells.specs.Page.{lines, low, next_page, slots, IsPage}
use Rattle.page_cells.proofs.Rows.{number_same, line_same, SameLine, row_kept, still_page}
use Rattle.page_cells.proofs.Lists.{slots_same}

-- where the first four bytes are the same, the next page is
pub next_same : (p q : List ℕ) → ((j : ℕ) → j < 4 → slice_index q j ≡ slice_index p j) → next_page q ≡ next_page p
unfolding next_page
next_same p q same =
    let first = number_same p q 0 (same 0 (omega arith)) (same 1 (omega arith)) in
    let second = number_same p q 2 (same 2 (omega arith)) (same 3 (omega arith)) in
    λ i. first i + 65536 * second i

module _ (p q : List ℕ) (page : IsPage p) (long : length q ≡ length p) (others : (j : ℕ) → 4 ≤ j → slice_index q j ≡ slice_index p j) where
  lines_q : lines q ≡ lines p
  lines_q = number_same p q 4 (others 4 (omega arith)) (others 5 (omega arith))

  low_q : low q ≡ low p
  low_q = number_same p q 6 (others 6 (omega arith)) (others 7 (omega arith))

  line_q : (k : ℕ) → SameLine p q k
  line_q k = line_same p q k (λ j a b. others j (omega arith))

  pub following_slots : slots q ≡ slots p
  following_slots = slots_same p q lines_q (λ k lt. row_kept p q k page long (λ j le. others j (omega (arith, page.behind))) lt (line_q k))

  pub following_page : IsPage q
  following_page = still_page p q 0 page long (omega (arith, page.behind, lines_q, low_q)) (omega (arith, low_q)) (λ k lt more. inl (omega (arith, lines_q, lt), line_q k))
