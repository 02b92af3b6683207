-- What reading one line more tells.
use Rattle.std.proofs.Common.{◌≡◌, ◌⊎◌, inl, inr, not, ℕ, ◌+◌, ◌<◌, ◌≤◌, ◌==◌, eqb, nat_lt, Bool, true, false, cond, List, [], ◌∷◌, ◌++◌, Some, None, is_none, length, take, position, sum_by, IfSome, get_or, subst, slice_range, refl, sym, ap, ◌∙◌, arith, if◌then◌else◌, add-one, length-drop, length-take}
use Rattle.std.specs.Option.{option_or}
use Rattle.std.specs.List.{position_or_len}
use Rattle.std.proofs.lemmas.List.{length_push}
use Rattle.std.proofs.lemmas.List.Folds.{position_or_len_push}
use Rattle.std.proofs.lemmas.List.Sums.{sum_by_push, sum_by_more, sum_by-take-le, prefix_len-le-length}
use Rattle.std.proofs.lemmas.Bool.Decides.{nat_tests}
use Rattle.page_cells.specs.Page.{Slot, lines, offset, size, row_at, row_length, slots_before, IsPage}
use Rattle.page_cells.proofs.Rows.{row_none, row_some}
use Rattle.page_cells.proofs.Lists.{length_before}

at_or_past : (n m : ℕ) (t : Bool) → n ≤ m →
    cond (nat_lt (cond (eqb n m) (m + cond t 0 1) n) (m + 1)) (Some (cond (eqb n m) (m + cond t 0 1) n)) None ≡ option_or (cond (nat_lt n m) (Some n) None) (cond t (Some m) None)
at_or_past n m true le = grind (arith, nat_tests)
at_or_past n m false le = grind (arith, nat_tests)

-- the first that passes, with one element more
position_push : {X : Type 0} (p : X → Bool) (xs : List X) (y : X) → position p (xs ++ y ∷ []) ≡ option_or (position p xs) (cond (p y) (Some (length xs)) None)
position_push {X} p xs y =
    (λ i. cond (nat_lt (position_or_len_push p xs y i) (length_push xs y i)) (Some (position_or_len_push p xs y i)) None)
    ∙ at_or_past (position_or_len p xs) (length xs) (p y) (prefix_len-le-length (λ x. not (p x)) xs)

-- the first empty line among one more
pub survey_empty : (p : List ℕ) (k : ℕ) → option_or (position is_none (slots_before p k)) (if size p k == 0 then Some k else None) ≡ position is_none (slots_before p (k + 1))
survey_empty p k =
    ap (λ (n : ℕ). option_or (position is_none (slots_before p k)) (cond (size p k == 0) (Some n) None)) (sym (length_before p k))
    ∙ ap (λ t. option_or (position is_none (slots_before p k)) (cond t (Some (length (slots_before p k))) None)) (sym (none_if (size p k == 0) (slice_range p (offset p k) (offset p k + size p k))))
    ∙ sym (position_push is_none (slots_before p k) (row_at p k))
    ∙ ap (λ (m : ℕ). position is_none (slots_before p m)) (sym (add-one k))
  where
    none_if : (t : Bool) (row : List ℕ) → is_none (if t then None else Some row) ≡ t
    none_if true row = refl
    none_if false row = refl

zero_or_more : (x : ℕ) → (x ≡ 0) ⊎ (0 < x)
zero_or_more x = grind arith

length_range : (p : List ℕ) (a n : ℕ) → a + n ≤ length p → length (slice_range p a (a + n)) ≡ n
length_range p a n le = grind (arith, length-drop {A = ℕ}, length-take {A = ℕ})

-- a row has as many bytes as its line says
pub length_row : (p : List ℕ) (k : ℕ) → IsPage p → length p ≡ 1024 → k < lines p → row_length (row_at p k) ≡ size p k
length_row p k page long lt = elim (zero_or_more (size p k)) [
  | inl none ↦ ap row_length (row_none p k none) ∙ sym none
  | inr more ↦ ap row_length (row_some p k more) ∙ length_range p (offset p k) (size p k) (let inside = page.within k lt more in omega (arith, inside.1, long))
]

-- the bytes of the rows of one more line
pub survey_used : (p : List ℕ) (k : ℕ) → IsPage p → length p ≡ 1024 → k < lines p → sum_by row_length (slots_before p k) + size p k ≡ sum_by row_length (slots_before p (k + 1))
survey_used p k page long lt =
    ap (λ (n : ℕ). sum_by row_length (slots_before p k) + n) (sym (length_row p k page long lt))
    ∙ sym (sum_by_push row_length (slots_before p k) (row_at p k))
    ∙ ap (λ (m : ℕ). sum_by row_length (slots_before p m)) (sym (add-one k))

-- a row has at most as many bytes as a page
pub size_bound : (p : List ℕ) (k : ℕ) → IsPage p → k < lines p → size p k ≤ 1024
size_bound p k page lt = elim (zero_or_more (size p k)) [ inl none ↦ omega (arith, none) | inr more ↦ let inside = page.within k lt more in omega (arith, inside.1) ]

-- a row that stands in a slot has bytes
pub slot_filled : (p : List ℕ) (k : ℕ) → IsPage p → length p ≡ 1024 → k < lines p → IfSome (row_at p k) (λ row. 0 < length row)
slot_filled p k page long lt = elim (zero_or_more (size p k)) [
  | inl none ↦ subst (λ (s : Slot). IfSome s (λ row. 0 < length row)) (sym (row_none p k none)) tt
  | inr more ↦
      subst (λ (s : Slot). IfSome s (λ row. 0 < length row)) (sym (row_some p k more))
      (let inside = page.within k lt more in omega (arith, length_range p (offset p k) (size p k) (omega (arith, inside.1, long)), more))
]

-- the rows of the first lines and the next one
pub sum_bound : (s : List Slot) (k : ℕ) → k < length s → sum_by row_length (take k s) + row_length (get_or s k None) ≤ sum_by row_length s
sum_bound s k lt = omega (arith, sum_by_more row_length s k None lt, sum_by-take-le row_length s (k + 1))
