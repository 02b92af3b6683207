-- A page that was read stands; and pages that all stand are those of a heap.
use Rattle.std.proofs.Common.{◌≡◌, ◌⊎◌, inl, inr, refl, ℕ, zero, suc, ◌+◌, ◌<◌, ◌≤◌, ◌&&◌, nat_lt, Bool, true, false, List, [], ◌∷◌, ◌++◌, length, get_or, Option, Some, None, option_map, is_some, Result, Ok, Err, IsTrue, OnOk, ap, ◌∙◌, arith}
use Rattle.std.proofs.lemmas.Bool.Decides.{nat_tests}
use Rattle.calculus.specs.Rows.{Row}
use Rattle.disk_model.specs.Disk.{Image}
use Rattle.am_traits.specs.Placed.{Placed}
use Rattle.calculus.specs.declared.schema.RelFile.{RelFile}
use Rattle.page_cells.specs.Page.{Slot, slots, lines}
use Rattle.page_chain.specs.Chains.{numbers_from}
use Rattle.page_chain.specs.Lists.{each}
use Rattle.page_chain.specs.Lying.{place_of, lying_in, lying_on, lying}
use Rattle.page_chain.specs.Pages.{Pages, pages_of, page_at}
use Rattle.page_chain.specs.Rows.{read_with, reader}
use Rattle.heap_am.specs.Heap.{heap_rows, stands, goes_on, has_rows, is_readable}
use Rattle.heap_am.proofs.Each.{each_append, each_cons}
use Rattle.heap_am.proofs.Heaps.{heap_is}
use Rattle.heap_am.proofs.Meeting.{slots_count}

there_is : {A : Type 0} (o : Option A) → is_some o ≡ true → (x : A) × (o ≡ Some x)
there_is None e = cc
there_is (Some x) e = (x, refl)

both_last : (a b c : Bool) → (a && (b && c)) ≡ true → (b ≡ true) × (c ≡ true)
both_last true true c e = (refl, e)
both_last true false c e = cc
both_last false b c e = cc

read_pages : (read : List ℕ → Option Row) (pages : Pages) (n k : ℕ) → ((j : ℕ) → k ≤ j → j < k + n → has_rows read j (pages j) ≡ true) → (rows : Placed) × (each (read_with read) (lying pages (numbers_from n k)) ≡ Some rows)
unfolding lying
read_pages read pages zero k all = ([], refl)
read_pages read pages (suc n) k all =
    let first = there_is (each (read_with read) (lying_on k (pages k))) (all k (omega arith) (omega arith)) in
    let rest = read_pages read pages n (suc k) (λ j le lt. all j (omega arith) (omega arith)) in
    (first.0 ++ rest.0, each_append (read_with read) (lying_on k (pages k)) (lying pages (numbers_from n (suc k))) first.0 rest.0 first.1 rest.1)

pub all_stand : (file : RelFile) (m : Image) → 0 < file.used → ((k : ℕ) → k < file.used → stands (reader file.domains) file.used k (m (page_at file.file k)) ≡ true) → (rows : Placed) × (heap_rows file m ≡ Some rows)
unfolding stands
all_stand file m some all =
    let parts = λ (k : ℕ) (lt : k < file.used). both_last (nat_lt k file.used) (goes_on file.used k (m (page_at file.file k))) (has_rows (reader file.domains) k (m (page_at file.file k))) (all k lt) in
    let read = read_pages (reader file.domains) (pages_of m file.file) file.used 0 (λ j le lt. (parts j (omega arith)).1) in
    (read.0, heap_is file m read.0 some (λ k le lt. (parts k (omega arith)).0) read.1)

-- ---- a page that was read

-- where each slot can be read, so can all
read_slots : (read : List ℕ → Option Row) (n l : ℕ) (s : List Slot) → ((k : ℕ) → k < length s → is_readable read (get_or s k None) ≡ true) → (rows : Placed) × (each (read_with read) (lying_in n l s) ≡ Some rows)
read_slots read n l [] all = ([], refl)
read_slots read n l (None ∷ s) all = read_slots read n (suc l) s (λ k lt. all (suc k) (omega arith))
read_slots read n l (Some bytes ∷ s) all =
    let first = there_is (read bytes) (all 0 (omega arith)) in
    let rest = read_slots read n (suc l) s (λ k lt. all (suc k) (omega arith)) in
    ((place_of n l, first.0) ∷ rest.0, each_cons (read_with read) (place_of n l, bytes) (lying_in n (suc l) s) (place_of n l, first.0) rest.0 (ap (option_map (λ row. (place_of n l, row))) first.1) rest.1)

-- a page of which each line could be read
pub lines_read : (read : List ℕ → Option Row) (n l : ℕ) (p : List ℕ) → lines p ≤ l → ((k : ℕ) → k < l → is_readable read (get_or (slots p) k None) ≡ true) → has_rows read n (Some p) ≡ true
unfolding lying_on
lines_read read n l p le all =
    let count = slots_count p in
    ap is_some (read_slots read n 0 (slots p) (λ k lt. all k (omega arith))).1

-- one more line could be read
pub one_read : (read : List ℕ → Option Row) (l : ℕ) (s : List Slot) → ((k : ℕ) → k < l → is_readable read (get_or s k None) ≡ true) → is_readable read (get_or s l None) ≡ true → (k : ℕ) → k < l + 1 → is_readable read (get_or s k None) ≡ true
one_read read l s all here k lt = by_order (split k l (omega arith))
  where
    split : (k l : ℕ) → k ≤ l → (k ≡ l) ⊎ (k < l)
    split k l le = grind arith

    by_order : (k ≡ l) ⊎ (k < l) → is_readable read (get_or s k None) ≡ true
    by_order (inl e) = ap (λ k. is_readable read (get_or s k None)) e ∙ here
    by_order (inr lt) = all k lt

-- a page that goes on as it must, and of which the rows could be read
pub page_read : {T E : Type 0} (file : RelFile) (m : Image) (k : ℕ) (p : List ℕ) (r : Result T E) → k < file.used → m (page_at file.file k) ≡ Some p → goes_on file.used k (Some p) ≡ true
    → OnOk r (IsTrue (has_rows (reader file.domains) k (Some p))) → OnOk r (IsTrue (stands (reader file.domains) file.used k (m (page_at file.file k))))
unfolding stands
page_read file m k p (Err e) lt is goes h = h
page_read file m k p (Ok x) lt is goes h =
    let below : nat_lt k file.used ≡ true = grind (arith, nat_tests) in
    let on : has_rows (reader file.domains) k (Some p) ≡ true = h in
    ap (λ o. nat_lt k file.used && (goes_on file.used k o && has_rows (reader file.domains) k o)) is ∙ (λ i. below i && (goes i && on i))
