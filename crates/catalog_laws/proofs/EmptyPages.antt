-- Pages on which no row lies, made one behind the other.
use Rattle.std.proofs.Common.{◌≡◌, refl, ap, ◌∙◌, ℕ, suc, ◌+◌, ◌*◌, ◌^◌, ◌<◌, ◌≤◌, nat_lt, Bool, true, false, List, [], ◌∷◌, ◌++◌, replicate, slice_index, Some, arith, if◌then◌else◌}
use Rattle.std.proofs.lemmas.Bool.{eq-eqb, ltb-true}
use Rattle.byteorder.specs.Endian.{little_bytes}
use Rattle.byteorder.specs.Numbers.{little_number-reads_back}
use Rattle.calculus.specs.Value.{row_cmp}
use Rattle.am_traits.specs.Placed.{rows_of}
use Rattle.page_cells.specs.Page.{IsPage, next_page, slots}
use Rattle.page_chain.specs.Chains.{numbers_from}
use Rattle.page_chain.specs.Lists.{◌>>=◌, each, once}
use Rattle.page_chain.specs.Lying.{Lying, lying_in, lying_on, lying}
use Rattle.page_chain.specs.Pages.{Pages, is_page, next_of}
use Rattle.page_chain.specs.Rows.{read_with, placed_on, set_on}
use Rattle.page_chain.proofs.Linking.{to_follow, may_go_on}
use Rattle.page_chain.proofs.PageTest.{passes_is_page}
use Rattle.heap_am.specs.Heap.{behind, is_number, goes_on}
use Rattle.heap_am.proofs.Counting.{whole_of}
use Rattle.catalog_laws.specs.Made.{AreEmpty, ThereAreEmptyPages}

-- ---- one page

-- a page without lines that begins with these four bytes
page_with : ℕ → ℕ → ℕ → ℕ → List ℕ
page_with a b c d = a ∷ b ∷ c ∷ d ∷ 0 ∷ 0 ∷ 0 ∷ 4 ∷ replicate 1016 0

with_is_page : (a b c d : ℕ) → is_page (page_with a b c d) ≡ true
unfolding page_with is_page
with_is_page a b c d = refl

with_next : (a b c d : ℕ) → next_page (page_with a b c d) ≡ (a + 256 * b) + 65536 * (c + 256 * d)
unfolding page_with next_page
with_next a b c d = refl

with_no_slots : (a b c d : ℕ) → slots (page_with a b c d) ≡ []
unfolding page_with slots
with_no_slots a b c d = refl

-- a page without lines that goes on to this one
page_to : ℕ → List ℕ
page_to n = let bytes = little_bytes 4 n in page_with (slice_index bytes 0) (slice_index bytes 1) (slice_index bytes 2) (slice_index bytes 3)

to_is_page : (n : ℕ) → IsPage (page_to n)
unfolding page_to
to_is_page n = let bytes = little_bytes 4 n in passes_is_page (page_to n) (with_is_page (slice_index bytes 0) (slice_index bytes 1) (slice_index bytes 2) (slice_index bytes 3))

to_next : (n : ℕ) → n < 2 ^ 32 → next_page (page_to n) ≡ n
unfolding page_to
to_next n lt =
    let bytes = little_bytes 4 n in
    let again : slice_index bytes 0 + 256 * (slice_index bytes 1 + 256 * (slice_index bytes 2 + 256 * (slice_index bytes 3 + 256 * 0))) ≡ n = little_number-reads_back 4 n [] lt in
    with_next (slice_index bytes 0) (slice_index bytes 1) (slice_index bytes 2) (slice_index bytes 3) ∙ added (slice_index bytes 0) (slice_index bytes 1) (slice_index bytes 2) (slice_index bytes 3) again
  where
    added : (a b c d : ℕ) → a + 256 * (b + 256 * (c + 256 * (d + 256 * 0))) ≡ n → (a + 256 * b) + 65536 * (c + 256 * d) ≡ n
    added a b c d e = omega (arith, e)

to_no_slots : (n : ℕ) → slots (page_to n) ≡ []
unfolding page_to
to_no_slots n = let bytes = little_bytes 4 n in with_no_slots (slice_index bytes 0) (slice_index bytes 1) (slice_index bytes 2) (slice_index bytes 3)

-- ---- so many of them

-- each page goes on to the one right behind it, and the last to none
pub empty_pages : ℕ → Pages
empty_pages used k = Some (page_to (behind used k))

goes_if : (used k n : ℕ) (p : List ℕ) → behind used k ≡ n → next_of used k (Some p) ≡ Some n → goes_on used k (Some p) ≡ true
goes_if used k n p e f = (λ i. is_number (e i) (f i)) ∙ eq-eqb n n refl

each_goes : (used k : ℕ) → used < 2 ^ 32 → goes_on used k (empty_pages used k) ≡ true
unfolding empty_pages
each_goes used k lt = go (nat_lt (suc k) used) refl
  where
    go : (t : Bool) → nat_lt (suc k) used ≡ t → goes_on used k (Some (page_to (behind used k))) ≡ true
    go true e =
        let below : suc k < used = ltb-true (suc k) used e in
        let n : behind used k ≡ suc k = ap (λ b. if b then suc k else 0) e in
        goes_if used k (suc k) (page_to (behind used k)) n
        (to_follow used k (suc k) (page_to (behind used k)) (to_is_page (behind used k)) (ap (λ m. next_page (page_to m)) n ∙ to_next (suc k) (omega (arith, below, lt))) (may_go_on used k below))
    go false e =
        let n : behind used k ≡ 0 = ap (λ b. if b then suc k else 0) e in
        goes_if used k 0 (page_to (behind used k)) n
        (to_follow used k 0 (page_to (behind used k)) (to_is_page (behind used k)) (ap (λ m. next_page (page_to m)) n ∙ to_next 0 (omega arith)) refl)

-- ---- no row lies on them

none_on : (used k : ℕ) → lying_on k (empty_pages used k) ≡ []
unfolding empty_pages lying_on
none_on used k = ap (lying_in k 0) (to_no_slots (behind used k))

none_lies : (used : ℕ) (numbers : List ℕ) → lying (empty_pages used) numbers ≡ []
unfolding lying
none_lies used [] = refl
none_lies used (n ∷ ns) = (λ i. none_on used n i ++ none_lies used ns i)

pub are_empty : (used : ℕ) → 1 ≤ used → used < 2 ^ 32 → AreEmpty used (empty_pages used)
unfolding set_on placed_on
are_empty used some lt = record {
  none = λ read.
      ap (λ o. (o >>= (λ numbers. each (read_with read) (lying (empty_pages used) numbers))) >>= (λ placed. once row_cmp (rows_of placed)))
      (whole_of used (empty_pages used) (omega (arith, some)) (λ k le below. each_goes used k lt))
      ∙ ap (λ (rows : Lying). each (read_with read) rows >>= (λ placed. once row_cmp (rows_of placed))) (none_lies used (numbers_from used 0));
}

pub there_are_empty_pages : ThereAreEmptyPages
there_are_empty_pages used some lt = (empty_pages used, are_empty used some lt)
