-- The lines of a page of which some are made empty.
use Rattle.std.proofs.Common.{◌≡◌, refl, sym, ap, subst, ◌∙◌, cond, ℕ, zero, suc, ◌+◌, ◌<◌, ◌≤◌, Bool, true, false, not, List, [], ◌∷◌, map, length, get_or, Some, None, arith, if◌then◌else◌}
use Rattle.std.proofs.Math.ListN.{set}
use Rattle.std.proofs.lemmas.List.Sorted.{length_permutation}
use Rattle.page_cells.specs.Page.{Slot, IsPage, slots}
use Rattle.page_cells.proofs.Lists.{length_slots}
use Rattle.page_chain.specs.Going.{has_going, unless_going}
use Rattle.page_chain.specs.Lying.{Came, place_of, is_among, lying_in, lying_on, staying}
use Rattle.page_chain.specs.Filled.{IsFilled}
use Rattle.page_chain.proofs.Slots.{row_is_cleared}

module _ (going : List (List ℕ)) where
  -- one line
  one_line : (n k : ℕ) (row : List ℕ) (s : List Slot) (goes : Bool)
      → lying_in n k ((if goes then None else Some row) ∷ s) ≡ cond (not goes) ((place_of n k, row) ∷ lying_in n (suc k) s) (lying_in n (suc k) s)
  one_line n k row s true = refl
  one_line n k row s false = refl

  -- the rows that stay are those in the lines that are left
  pub lines_left : (n k : ℕ) (s : List Slot) → lying_in n k (map (unless_going going) s) ≡ staying going (lying_in n k s)
  lines_left n k [] = refl
  lines_left n k (None ∷ s) = lines_left n (suc k) s
  lines_left n k (Some row ∷ s) =
      one_line n k row (map (unless_going going) s) (is_among going row)
      ∙ ap (λ rows. cond (not (is_among going row)) ((place_of n k, row) ∷ rows) rows) (lines_left n (suc k) s)

  -- a line that is empty has none
  pub goes_not : (slot : Slot) → has_going going slot ≡ false → unless_going going slot ≡ slot
  goes_not slot e = ap (λ b. if b then None else slot) e

  goes : (slot : Slot) → has_going going slot ≡ true → unless_going going slot ≡ None
  goes slot e = ap (λ b. if b then None else slot) e

  -- a line whose row is to go is as it would be cleared
  pub cleared_alike : (s : List Slot) (i : ℕ) → has_going going (get_or s i None) ≡ true → map (unless_going going) (set s i None) ≡ map (unless_going going) s
  cleared_alike [] i e = refl
  cleared_alike (x ∷ s) zero e = ap (λ y. y ∷ map (unless_going going) s) (sym (goes x e))
  cleared_alike (x ∷ s) (suc i) e = ap (λ rest. unless_going going x ∷ rest) (cleared_alike s i e)

  -- a line that was cleared is empty
  pub cleared_here : (s : List Slot) (i : ℕ) → get_or (set s i None) i None ≡ None
  cleared_here [] i = refl
  cleared_here (x ∷ s) zero = refl
  cleared_here (x ∷ s) (suc i) = cleared_here s i

  pub cleared_left : (s : List Slot) (i : ℕ) → unless_going going (get_or (set s i None) i None) ≡ get_or (set s i None) i None
  cleared_left s i = subst (λ slot. unless_going going slot ≡ slot) (sym (cleared_here s i)) refl

  -- a row that is to go is one
  pub going_row : (slot : Slot) → has_going going slot ≡ true → (row : List ℕ) × (slot ≡ Some row)
  going_row None e = absurd (cc e)
  going_row (Some row) e = (row, refl)

  -- one row less lies on the page
  pub one_less : (n : ℕ) (p q : List ℕ) (i : ℕ) → slots q ≡ set (slots p) i None → has_going going (get_or (slots p) i None) ≡ true
      → 1 + length (lying_on n (Some q)) ≡ length (lying_on n (Some p))
  unfolding lying_on
  one_less n p q i cleared e =
      let row = going_row (get_or (slots p) i None) e in
      let moved = length_permutation _ _ (row_is_cleared n (slots p) i row.0 row.1) in
      omega (arith, moved, ap (λ s. length (lying_in n 0 s)) cleared)

  -- where each of the first lines is as it is left, and there are no more, all are
  pub all_left : (s : List Slot) (m : ℕ) → length s ≤ m → ((k : ℕ) → k < m → unless_going going (get_or s k None) ≡ get_or s k None) → map (unless_going going) s ≡ s
  all_left [] m long left = refl
  all_left (x ∷ s) zero long left = absurd (omega arith)
  all_left (x ∷ s) (suc m) long left =
      ap (λ y. y ∷ map (unless_going going) s) (left zero (omega arith)) ∙ ap (λ rest. x ∷ rest) (all_left s m (omega arith) (λ k lt. left (suc k) (omega arith)))

  pub few_lines : (p : List ℕ) → IsPage p → length (slots p) ≤ 254
  few_lines p page = omega (arith, length_slots p, page.behind, page.top)

  -- a page of which each line is as it is left has the rows that stay
  pub page_left : (n : ℕ) (p q : List ℕ) → IsPage q → map (unless_going going) (slots q) ≡ map (unless_going going) (slots p)
      → ((k : ℕ) → k < 254 → unless_going going (get_or (slots q) k None) ≡ get_or (slots q) k None)
      → lying_on n (Some q) ≡ staying going (lying_on n (Some p))
  unfolding lying_on
  page_left n p q page alike left =
      ap (lying_in n 0) (sym (all_left (slots q) 254 (few_lines q page) left) ∙ alike) ∙ lines_left n 0 (slots p)

-- what came on a page that was cleared
pub came_on : (n : ℕ) (going rows : List (List ℕ)) (p q r : List ℕ) → lying_on n (Some q) ≡ staying going (lying_on n (Some p)) → IsFilled q rows r
    → Came (staying going (lying_on n (Some p))) rows (lying_on n (Some r))
unfolding lying_on
came_on n going rows p q r left filled = subst (λ before. Came before rows (lying_in n 0 (slots r))) left (filled.came n)

-- no row less
pub none_less : (went : Bool) (left : ℕ) → went ≡ false → (if went then 1 else 0) + left ≡ left
none_less true left e = cc
none_less false left e = omega arith
