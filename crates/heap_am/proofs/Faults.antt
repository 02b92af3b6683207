-- When a page of a heap is at fault.
use Rattle.std.proofs.Common.{◌≡◌, refl, sym, ap, subst, ◌∙◌, ℕ, zero, suc, ◌+◌, ◌-◌, ◌<◌, ◌≤◌, ◌==◌, ◌&&◌, nat_lt, not, Bool, true, false, List, [], ◌∷◌, find, length, get_or, Option, Some, None, is_some, option_map, Result, Ok, Err, IfErr, IfSome, if◌then◌else◌, arith, IsTrue}
use Rattle.std.proofs.lemmas.Bool.Decides.{nat_tests}
use Rattle.fault_io.specs.Causes.{Rose}
use Rattle.calculus.specs.declared.probe.Place.{Place}
use Rattle.calculus.specs.declared.value.Domain.{Domain}
use Rattle.calculus.specs.Rows.{Row}
use Rattle.disk_model.specs.Disk.{Image}
use Rattle.disk_model.specs.declared.disk.Addr.{Addr}
use Rattle.base_trait.specs.declared.fault.BaseFault.{BaseFault}
use Rattle.base_trait.specs.declared.fault.BaseFault.TheVariants.{Disk, Damaged, OutOfMemory}
use Rattle.am_traits.specs.Causes.{MayFail, HasFileCause}
use Rattle.am_traits.specs.Placed.{Placed, row_with, is_place}
use Rattle.calculus.specs.declared.schema.RelFile.{RelFile}
use Rattle.page_cells.specs.Page.{Slot, slots}
use Rattle.page_cells.specs.RowBytes.{is_row, row_bytes}
use Rattle.page_chain.specs.Chains.{OffPage, NoChain, NoChainTo, is_on, whole_chain, numbers_from}
use Rattle.page_chain.specs.Lists.{each, ◌>>=◌, when}
use Rattle.page_chain.specs.Lying.{place_of, lying_on, lying}
use Rattle.page_chain.specs.Pages.{page_at, pages_of, next_of}
use Rattle.page_chain.specs.Rows.{read_with, reader, placed_on}
use Rattle.heap_am.specs.Heap.{heap_rows, stands, goes_on, has_rows, is_number, behind, HeapFault, IsOfPage, IsOfRow}
use Rattle.heap_am.proofs.Counting.{goes_where}
use Rattle.heap_am.proofs.Changed.{heap_chain_to, starts_at_0}
use Rattle.heap_am.proofs.Each.{First, each_first}
use Rattle.heap_am.proofs.Heaps.{page_stands, at_line, slot_row}
use Rattle.heap_am.proofs.Lying.{page_has, slot_with}
use Rattle.heap_am.proofs.RowLaws.{reader_row, reader_spelled}

-- ---- rows read

-- what is answered where exactly the bytes of rows are rows
pub reader_by : (bytes : List ℕ) (ds : List Domain) (o : Option Row) → IfSome o (λ r. IsTrue (is_row r ds) × (row_bytes r ds ≡ bytes)) → ((r : Row) → IsTrue (is_row r ds) → row_bytes r ds ≡ bytes → o ≡ Some r) → o ≡ reader ds bytes
reader_by bytes ds (Some r) s only = sym (ap (reader ds) (sym s.1) ∙ reader_row r ds s.0)
reader_by bytes ds None s only = by_read (reader ds bytes) refl
  where
    by_read : (o : Option Row) → reader ds bytes ≡ o → None ≡ reader ds bytes
    by_read None e = sym e
    by_read (Some r) e = let s = reader_spelled ds bytes r e in let n : None ≡ Some r = only r s.fits s.spells in cc

-- the row in a slot
abbrev pub slot_read : (List ℕ → Option Row) → Slot → Option Row
slot_read read None = None
slot_read read (Some bytes) = read bytes

pub row_at_line : (file : RelFile) (m : Image) (rows : Placed) (k l : ℕ) (p : List ℕ) → k < file.used → heap_rows file m ≡ Some rows → m (page_at file.file k) ≡ Some p
    → row_with rows (place_of k l) ≡ slot_read (reader file.domains) (get_or (slots p) l None)
row_at_line file m rows k l p lt e is = ap (option_map (λ (r : Place × Row). r.1)) (at_line file m rows k l p lt e is) ∙ of_slot (get_or (slots p) l None)
  where
    of_read : (o : Option Row) → option_map (λ (r : Place × Row). r.1) (option_map (λ row. (place_of k l, row)) o) ≡ o
    of_read None = refl
    of_read (Some row) = refl

    of_slot : (s : Slot) → option_map (λ (r : Place × Row). r.1) (slot_row (reader file.domains) (place_of k l) s) ≡ slot_read (reader file.domains) s
    of_slot None = refl
    of_slot (Some bytes) = of_read (reader file.domains bytes)

-- ---- pages at fault

-- a page that doesn't stand is at fault
pub not_standing : (file : RelFile) (m : Image) (k : ℕ) → k < file.used → stands (reader file.domains) file.used k (m (page_at file.file k)) ≡ false → HeapFault file m (page_at file.file k)
not_standing file m k lt off = record { of_file = refl; off = off; none = by_rows (heap_rows file m) refl }
  where
    by_rows : (o : Option Placed) → heap_rows file m ≡ o → heap_rows file m ≡ None
    by_rows None e = e
    by_rows (Some rows) e = let on = page_stands file m rows k lt e in cc

not_both : (a b c : Bool) → b ≡ false → (a && (b && c)) ≡ false
not_both true b c e = ap (λ b. b && c) e
not_both false b c e = refl

nor_last : (a b c : Bool) → c ≡ false → (a && (b && c)) ≡ false
nor_last true true c e = e
nor_last true false c e = refl
nor_last false b c e = refl

-- a page that no chain goes on from is at fault
pub off_page : (file : RelFile) (m : Image) (a : Addr) (k : ℕ) → k < file.used → OffPage file.file k file.used m a → HeapFault file m a
unfolding stands
off_page file m a k lt off = subst (HeapFault file m) (sym here) (not_standing file m k lt (off_at (subst (λ b. next_of file.used k (m b) ≡ None) here off.off)))
  where
    here : a ≡ page_at file.file k
    here = λ i. record { file = off.of_file i; page = off.of_page i }

    off_at : next_of file.used k (m (page_at file.file k)) ≡ None → stands (reader file.domains) file.used k (m (page_at file.file k)) ≡ false
    off_at e = not_both (nat_lt k file.used) (goes_on file.used k (m (page_at file.file k))) (has_rows (reader file.domains) k (m (page_at file.file k))) (ap (is_number (behind file.used k)) e)

found_read : {A B : Type 0} (f : A → Option B) (p : A → Bool) (xs : List A) (ys : List B) (x : A) → each f xs ≡ Some ys → find p xs ≡ Some x → f x ≡ None → ⊥
found_read f p [] ys x e h n = cc
found_read f p (y ∷ xs) ys x e h n = by_test (p y) (each_first f y xs ys e) h (found_read f p xs)
  where
    by_test : (b : Bool) → First f y xs ys → (if b then Some y else find p xs) ≡ Some x → ((ys : _) (x : _) → each f xs ≡ Some ys → find p xs ≡ Some x → f x ≡ None → ⊥) → ⊥
    by_test true r h rest = let same : y ≡ x = cc in let s = r.first in let t = ap f same in cc
    by_test false r h rest = rest r.ys x r.rest h n

-- a page with bytes in a line that are those of no row is at fault
pub bad_row : (file : RelFile) (m : Image) (k l : ℕ) (p bytes : List ℕ) → k < file.used → m (page_at file.file k) ≡ Some p → get_or (slots p) l None ≡ Some bytes → reader file.domains bytes ≡ None → HeapFault file m (page_at file.file k)
unfolding stands
bad_row file m k l p bytes lt is at none = not_standing file m k lt (off_at (ap (has_rows (reader file.domains) k) is ∙ by_rows (each (read_with (reader file.domains)) (lying_on k (Some p))) refl))
  where
    off_at : has_rows (reader file.domains) k (m (page_at file.file k)) ≡ false → stands (reader file.domains) file.used k (m (page_at file.file k)) ≡ false
    off_at e = nor_last (nat_lt k file.used) (goes_on file.used k (m (page_at file.file k))) (has_rows (reader file.domains) k (m (page_at file.file k))) e

    by_rows : (o : Option Placed) → each (read_with (reader file.domains)) (lying_on k (Some p)) ≡ o → has_rows (reader file.domains) k (Some p) ≡ false
    by_rows None e = ap is_some e
    by_rows (Some rows) e =
        absurd (found_read (read_with (reader file.domains)) (λ r. is_place r.0 (place_of k l)) (lying_on k (Some p)) rows (place_of k l, bytes) e
        (page_has k l p ∙ ap (slot_with (place_of k l)) at) (ap (option_map (λ row. (place_of k l, row))) none))

-- a page that goes on to another than the one right behind it is at fault
pub bad_next : (file : RelFile) (m : Image) (k next : ℕ) (p : List ℕ) → k < file.used → m (page_at file.file k) ≡ Some p → next_of file.used k (Some p) ≡ Some next → (next ≡ behind file.used k → ⊥) → HeapFault file m (page_at file.file k)
unfolding stands
bad_next file m k next p lt is goes other =
    not_standing file m k lt (not_both (nat_lt k file.used) (goes_on file.used k (m (page_at file.file k))) (has_rows (reader file.domains) k (m (page_at file.file k)))
    (ap (goes_on file.used k) is ∙ ap (is_number (behind file.used k)) goes ∙ (let t : (next == behind file.used k) ≡ false = grind (arith, nat_tests) in t)))

-- the fault of a row is one of its page
pub of_page : (file : RelFile) (k l : ℕ) (p bytes : List ℕ) (fault : BaseFault) → k < file.used → get_or (slots p) l None ≡ Some bytes → IsOfRow file k bytes fault → IsOfPage file k p fault
of_page file k l p bytes Disk lt at h = h
of_page file k l p bytes (Damaged f n) lt at h = λ m is. subst (HeapFault file m) (λ i. record { file = sym h.0 i; page = sym h.1 i }) (bad_row file m k l p bytes lt is at h.2)
of_page file k l p bytes OutOfMemory lt at h = tt

-- the fault of a page may come
pub may_come : (file : RelFile) (k : ℕ) (p : List ℕ) (known : Option Image) (before now : ℕ) (fault : BaseFault) → now ≡ before → ((m : Image) → known ≡ Some m → m (page_at file.file k) ≡ Some p) → IsOfPage file k p fault → MayFail known (HeapFault file) before now fault
may_come file k p known before now Disk calm there h = absurd h
may_come file k p known before now (Damaged f n) calm there h = (λ m e. h m (there m e), calm)
may_come file k p known before now OutOfMemory calm there h = calm

-- ---- causes

-- the same fault, where what is at fault for one call is at fault for the other
pub cause_by : {T U : Type 0} {known : Option Image} {P : Image → Addr → Type 0} (Q : Image → Addr → Type 0) {before now : ℕ} (s : Result U BaseFault) (e : BaseFault)
    → ((m : Image) (a : Addr) → P m a → Q m a) → HasFileCause {T = T} known P before now (Err e) → s ≡ Err e → HasFileCause {T = U} known Q before now s
cause_by {known = known} {P = P} Q {before = before} {now = now} s e f h is = subst (HasFileCause known Q before now) (sym is) (record { later = h.later; caused = by_fault e h.caused })
  where
    by_fault : (e : BaseFault) → MayFail known P before now e → MayFail known Q before now e
    by_fault Disk h = h
    by_fault (Damaged file page) h = (λ m e. f m (record { file = file; page = page }) (h.0 m e), h.1)
    by_fault OutOfMemory h = h

-- damage at a page that is at fault
pub cause_damaged : {T : Type 0} (known : Option Image) (file : RelFile) (k before now : ℕ) (e : BaseFault) → e ≡ Damaged file.file k → now ≡ before
    → ((m : Image) → known ≡ Some m → HeapFault file m (page_at file.file k)) → HasFileCause {T = T} known (HeapFault file) before now (Err e)
cause_damaged known file k before now e is calm f = record { later = omega (arith, calm); caused = subst (MayFail known (HeapFault file) before now) (sym is) (f, calm) }

-- the fault of a page that was read
pub cause_of_page : {T : Type 0} (known : Option Image) (file : RelFile) (k : ℕ) (p : List ℕ) (before now : ℕ) (r : Result T BaseFault) → now ≡ before
    → ((m : Image) → known ≡ Some m → m (page_at file.file k) ≡ Some p) → IfErr r (IsOfPage file k p) → HasFileCause known (HeapFault file) before now r
cause_of_page known file k p before now (Ok x) calm there h = record { later = omega (arith, calm); caused = calm }
cause_of_page known file k p before now (Err e) calm there h = record { later = omega (arith, calm); caused = may_come file k p known before now e calm there h }

rose_before : (before later now : ℕ) → later ≡ before → Rose later now → Rose before now
rose_before before later now calm = subst (λ n. Rose n now) calm

-- the fault of a later call, where those before it answered
pub cause_later : {T U : Type 0} (known since : Option Image) (P : Image → Addr → Type 0) (before later now : ℕ) (s : Result U BaseFault) (e : BaseFault)
    → since ≡ known → later ≡ before → HasFileCause {T = T} since P later now (Err e) → s ≡ Err e → HasFileCause {T = U} known P before now s
cause_later known since P before later now s e same calm h is =
    subst (HasFileCause known P before now) (sym is) (record { later = omega (arith, calm, h.later); caused = by_fault e h.caused })
  where
    by_fault : (e : BaseFault) → MayFail since P later now e → MayFail known P before now e
    by_fault Disk h = rose_before before later now calm h
    by_fault (Damaged file page) h = (λ m e. h.0 m (same ∙ e), h.1 ∙ calm)
    by_fault OutOfMemory h = h ∙ calm

-- the last page, where no chain ends at it, is at fault
pub off_last : (file : RelFile) (m : Image) (a : Addr) → 0 < file.used → OffPage file.file (file.used - 1) (file.used - 1 + 1) m a → HeapFault file m a
off_last file m a some off =
    let e : file.used - 1 + 1 ≡ file.used = omega arith in
    off_page file m a (file.used - 1) (omega arith) (subst (λ b. OffPage file.file (file.used - 1) b m a) e off)

no_rows : (file : RelFile) (m : Image) → ((rows : Placed) → heap_rows file m ≡ Some rows → ⊥) → heap_rows file m ≡ None
no_rows file m never = by_rows (heap_rows file m) refl
  where
    by_rows : (o : Option Placed) → heap_rows file m ≡ o → heap_rows file m ≡ None
    by_rows None e = e
    by_rows (Some rows) e = absurd (never rows e)

-- a page at which a chain breaks off is at fault
pub no_chain : (file : RelFile) (m : Image) (a : Addr) → NoChain file.file file.used m a → HeapFault file m a
unfolding stands heap_rows placed_on whole_chain
no_chain file m a h = record {
  of_file = h.of_file;
  off = not_both (nat_lt a.page file.used) (goes_on file.used a.page (m a)) (has_rows (reader file.domains) a.page (m a)) (ap (is_number (behind file.used a.page)) h.off);
  none = ap (λ o. (o >>= (λ numbers. when (length numbers == file.used) numbers)) >>= (λ numbers. each (read_with (reader file.domains)) (lying (pages_of m file.file) numbers))) h.none;
}

all_three : (a b c : Bool) → (a && (b && c)) ≡ true → (a ≡ true) × (b ≡ true)
all_three true true c e = (refl, refl)
all_three true false c e = cc
all_three false b c e = cc

on_chain : (used page : ℕ) (p : Option (List ℕ)) → nat_lt page used ≡ true → goes_on used page p ≡ true → is_on used (used - 1) page p ≡ true
on_chain used page p below goes = ap (λ o. elim o [ None ↦ false | Some zero ↦ page == used - 1 | Some (suc next) ↦ not (page == used - 1) ]) (goes_where used page p goes) ∙ by_last (nat_lt (suc page) used) refl
  where
    by_last : (b : Bool) → nat_lt (suc page) used ≡ b → (elim (Some (if nat_lt (suc page) used then suc page else 0)) [ None ↦ false | Some zero ↦ page == used - 1 | Some (suc next) ↦ not (page == used - 1) ]) ≡ true
    by_last true e =
        ap (λ b. elim (Some (if b then suc page else 0)) [ None ↦ false | Some zero ↦ page == used - 1 | Some (suc next) ↦ not (page == used - 1) ]) e
        ∙ (let t : (page == used - 1) ≡ false = grind (arith, nat_tests) in ap not t)
    by_last false e =
        ap (λ b. elim (Some (if b then suc page else 0)) [ None ↦ false | Some zero ↦ page == used - 1 | Some (suc next) ↦ not (page == used - 1) ]) e
        ∙ (let t : (page == used - 1) ≡ true = grind (arith, nat_tests) in t)

-- a page at which a chain that ends at the last page breaks off is at fault
pub no_chain_to : (file : RelFile) (m : Image) (a : Addr) → 0 < file.used → NoChainTo file.file file.used (file.used - 1) m a → HeapFault file m a
unfolding stands
no_chain_to file m a some h = record {
  of_file = h.of_file;
  off = by_stands (stands (reader file.domains) file.used a.page (m a)) refl;
  none = no_rows file m (λ rows e. h.none (numbers_from (file.used - 1) 0) (starts_at_0 (file.used - 1)) (heap_chain_to file m rows (file.used - 1) (omega arith) e));
}
  where
    by_stands : (b : Bool) → stands (reader file.domains) file.used a.page (m a) ≡ b → b ≡ false
    by_stands false e = refl
    by_stands true e =
        let t = all_three (nat_lt a.page file.used) (goes_on file.used a.page (m a)) (has_rows (reader file.domains) a.page (m a)) e in
        let on = on_chain file.used a.page (m a) t.0 t.1 in
        let off = h.off in
        cc

-- the same answer, where what is at fault for one call is at fault for the other
pub cause_any : {T : Type 0} {known : Option Image} {P : Image → Addr → Type 0} (Q : Image → Addr → Type 0) {before now : ℕ} (r : Result T BaseFault)
    → ((m : Image) (a : Addr) → P m a → Q m a) → HasFileCause known P before now r → HasFileCause known Q before now r
cause_any Q (Ok x) f h = record { later = h.later; caused = h.caused }
cause_any Q (Err e) f h = cause_by Q (Err e) e f h refl
