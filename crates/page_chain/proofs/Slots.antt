-- The rows in the slots of a page, as one is put into a line or goes from it; and those on pages of a file.
use Rattle.std.proofs.Common.{◌≡◌, ◌⊎◌, inl, inr, refl, sym, ap, ap₂, subst, ◌∙◌, ℕ, zero, suc, ◌+◌, ◌<◌, Bool, true, false, List, [], ◌∷◌, ◌++◌, length, get_or, nat_lt, nat_le, position, is_none, Option, Some, None, arith, if◌then◌else◌}
use Rattle.std.specs.List.Sorted.{IsPermutation}
use Rattle.std.specs.List.{AllByRecursion}
use Rattle.std.proofs.Math.ListN.{set}
use Rattle.std.proofs.lemmas.Grind.{flat_map-append}
use Rattle.std.proofs.lemmas.Option.{same_Some, none-some}
use Rattle.std.proofs.lemmas.List.Quantifiers.{position-Some}
use Rattle.std.proofs.lemmas.List.Sorted.{IsPermutation-refl, IsPermutation-trans, IsPermutation-cons, IsPermutation-middle, IsPermutation-to_front}
use Rattle.page_cells.specs.Page.{Slot, line_in, line_for, with_row, room_beside}
use Rattle.page_chain.specs.Lying.{Lying, place_of, lying_in, lying_on, lying}
use Rattle.page_chain.specs.Pages.{Pages}

-- ---- the slots of one page

-- rows in slots that follow others
pub lying_append : (n k : ℕ) (s t : List Slot) → lying_in n k (s ++ t) ≡ lying_in n k s ++ lying_in n (k + length s) t
lying_append n k [] t = ap (λ j. lying_in n j t) (let e : k ≡ k + 0 = omega arith in e)
lying_append n k (None ∷ s) t = lying_append n (suc k) s t ∙ ap (λ j. lying_in n (suc k) s ++ lying_in n j t) (let e : suc k + length s ≡ k + suc (length s) = omega arith in e)
lying_append n k (Some row ∷ s) t =
    ap (λ l. (place_of n k, row) ∷ l) (lying_append n (suc k) s t ∙ ap (λ j. lying_in n (suc k) s ++ lying_in n j t) (let e : suc k + length s ≡ k + suc (length s) = omega arith in e))

-- the first two change places
two_change : {A : Type 0} (a b : A) (xs ys : List A) → IsPermutation xs (b ∷ ys) → IsPermutation (a ∷ xs) (b ∷ a ∷ ys)
two_change a b xs ys p = IsPermutation-trans (a ∷ xs) (a ∷ b ∷ ys) (b ∷ a ∷ ys) (IsPermutation-cons a xs (b ∷ ys) p) (IsPermutation-middle (a ∷ []) b ys)

-- a row goes from its line
cleared_from : (n k : ℕ) (slots : List Slot) (line : ℕ) (row : List ℕ) → get_or slots line None ≡ Some row
    → IsPermutation (lying_in n k slots) ((place_of n (k + line), row) ∷ lying_in n k (set slots line None))
cleared_from n k [] line row e = absurd (none-some row e)
cleared_from n k (None ∷ s) zero row e = absurd (none-some row e)
cleared_from n k (Some r ∷ s) zero row e =
    subst (λ j. IsPermutation (lying_in n k (Some r ∷ s)) ((place_of n j, row) ∷ lying_in n (suc k) s)) (let a : k ≡ k + 0 = omega arith in a)
    (subst (λ x. IsPermutation (lying_in n k (Some r ∷ s)) ((place_of n k, x) ∷ lying_in n (suc k) s)) (same_Some r row e) (IsPermutation-refl ((place_of n k, r) ∷ lying_in n (suc k) s)))
cleared_from n k (None ∷ s) (suc line) row e =
    subst (λ j. IsPermutation (lying_in n (suc k) s) ((place_of n j, row) ∷ lying_in n (suc k) (set s line None))) (let a : suc k + line ≡ k + suc line = omega arith in a) (cleared_from n (suc k) s line row e)
cleared_from n k (Some r ∷ s) (suc line) row e =
    subst (λ j. IsPermutation ((place_of n k, r) ∷ lying_in n (suc k) s) ((place_of n j, row) ∷ (place_of n k, r) ∷ lying_in n (suc k) (set s line None))) (let a : suc k + line ≡ k + suc line = omega arith in a)
    (two_change (place_of n k, r) (place_of n (suc k + line), row) (lying_in n (suc k) s) (lying_in n (suc k) (set s line None)) (cleared_from n (suc k) s line row e))

-- a row goes from its line of a page
pub row_is_cleared : (n : ℕ) (slots : List Slot) (line : ℕ) (row : List ℕ) → get_or slots line None ≡ Some row
    → IsPermutation (lying_in n 0 slots) ((place_of n line, row) ∷ lying_in n 0 (set slots line None))
row_is_cleared n slots line row e =
    subst (λ j. IsPermutation (lying_in n 0 slots) ((place_of n j, row) ∷ lying_in n 0 (set slots line None))) (let a : 0 + line ≡ line = omega arith in a) (cleared_from n 0 slots line row e)

-- a row comes into an empty line
filled_from : (n k : ℕ) (slots : List Slot) (line : ℕ) (row : List ℕ) → line < length slots → get_or slots line None ≡ None
    → IsPermutation (lying_in n k (set slots line (Some row))) ((place_of n (k + line), row) ∷ lying_in n k slots)
filled_from n k [] line row lt e = absurd (omega arith)
filled_from n k (Some r ∷ s) zero row lt e = absurd (none-some r (sym e))
filled_from n k (None ∷ s) zero row lt e =
    subst (λ j. IsPermutation ((place_of n k, row) ∷ lying_in n (suc k) s) ((place_of n j, row) ∷ lying_in n (suc k) s)) (let a : k ≡ k + 0 = omega arith in a) (IsPermutation-refl ((place_of n k, row) ∷ lying_in n (suc k) s))
filled_from n k (None ∷ s) (suc line) row lt e =
    subst (λ j. IsPermutation (lying_in n (suc k) (set s line (Some row))) ((place_of n j, row) ∷ lying_in n (suc k) s)) (let a : suc k + line ≡ k + suc line = omega arith in a) (filled_from n (suc k) s line row (omega arith) e)
filled_from n k (Some r ∷ s) (suc line) row lt e =
    subst (λ j. IsPermutation ((place_of n k, r) ∷ lying_in n (suc k) (set s line (Some row))) ((place_of n j, row) ∷ (place_of n k, r) ∷ lying_in n (suc k) s)) (let a : suc k + line ≡ k + suc line = omega arith in a)
    (two_change (place_of n k, r) (place_of n (suc k + line), row) (lying_in n (suc k) (set s line (Some row))) (lying_in n (suc k) s) (filled_from n (suc k) s line row (omega arith) e))

-- a line for a row is an empty one, or a new one behind the last
line_is_free : (slots : List Slot) (room n line : ℕ) (first : Option ℕ) → position is_none slots ≡ first → line_in first (length slots) room n ≡ Some line
    → ((line < length slots) × (get_or slots line None ≡ None)) ⊎ (line ≡ length slots)
line_is_free slots room n line None at e = inr (new (nat_le (n + 4) room) e)
  where
    new : (b : Bool) → (if b then Some (length slots) else None) ≡ Some line → line ≡ length slots
    new true e = sym (same_Some (length slots) line e)
    new false e = absurd (none-some line e)
line_is_free slots room n line (Some empty) at e = inl (old (nat_le n room) e)
  where
    none_is : (o : Slot) → is_none o ≡ true → o ≡ None
    none_is None e = refl
    none_is (Some r) e = cc

    old : (b : Bool) → (if b then Some empty else None) ≡ Some line → (line < length slots) × (get_or slots line None ≡ None)
    old false e = absurd (none-some line e)
    old true e =
        let first = position-Some is_none slots empty None at in
        subst (λ j. (j < length slots) × (get_or slots j None ≡ None)) (same_Some empty line e) (first.0, none_is (get_or slots empty None) first.1)

pub free_line : (slots : List Slot) (n line : ℕ) → line_for slots n ≡ Some line → ((line < length slots) × (get_or slots line None ≡ None)) ⊎ (line ≡ length slots)
free_line slots n line e = line_is_free slots (room_beside slots) n line (position is_none slots) refl e

-- a row is put into the line for it
pub row_is_placed : (n : ℕ) (slots : List Slot) (long line : ℕ) (row : List ℕ) → line_for slots long ≡ Some line
    → IsPermutation (lying_in n 0 (with_row slots (Some line) row)) ((place_of n line, row) ∷ lying_in n 0 slots)
row_is_placed n slots long line row e = go (free_line slots long line e) (nat_lt line (length slots)) refl
  where
    go : ((line < length slots) × (get_or slots line None ≡ None)) ⊎ (line ≡ length slots) → (b : Bool) → nat_lt line (length slots) ≡ b
        → IsPermutation (lying_in n 0 (if b then set slots line (Some row) else slots ++ Some row ∷ [])) ((place_of n line, row) ∷ lying_in n 0 slots)
    go (inl free) true it =
        subst (λ j. IsPermutation (lying_in n 0 (set slots line (Some row))) ((place_of n j, row) ∷ lying_in n 0 slots)) (let a : 0 + line ≡ line = omega arith in a) (filled_from n 0 slots line row free.0 free.1)
    go (inl free) false it = absurd (grind (arith, it, free.0))
    go (inr new) true it = absurd (grind (arith, it, new))
    go (inr new) false it =
        subst (λ l. IsPermutation l ((place_of n line, row) ∷ lying_in n 0 slots)) (sym (lying_append n 0 slots (Some row ∷ [])))
        (subst (λ j. IsPermutation (lying_in n 0 slots ++ (place_of n j, row) ∷ []) ((place_of n line, row) ∷ lying_in n 0 slots)) (let a : line ≡ 0 + length slots = omega (arith, new) in a)
        (IsPermutation-to_front (lying_in n 0 slots) (place_of n line, row)))

-- ---- the pages of a file

-- what lies on pages, and on those behind them
pub lying_join : (pages : Pages) (ns ms : List ℕ) → lying pages (ns ++ ms) ≡ lying pages ns ++ lying pages ms
unfolding lying
lying_join pages ns ms = flat_map-append (λ n. lying_on n (pages n)) ns ms

pub lying_one : (pages : Pages) (n : ℕ) → lying pages (n ∷ []) ≡ lying_on n (pages n) ++ []
unfolding lying
lying_one pages n = refl

pub lying_first : (pages : Pages) (n : ℕ) (ns : List ℕ) → lying pages (n ∷ ns) ≡ lying_on n (pages n) ++ lying pages ns
unfolding lying
lying_first pages n ns = refl

-- where the pages are the same, the same lies on them
pub lying_same : (pages later : Pages) (ns : List ℕ) → AllByRecursion (λ n. later n ≡ pages n) ns → lying later ns ≡ lying pages ns
unfolding lying
lying_same pages later [] same = refl
lying_same pages later (n ∷ ns) same = ap₂ (λ (o : Option (List ℕ)) (l : Lying). lying_on n o ++ l) same.0 (lying_same pages later ns same.1)
