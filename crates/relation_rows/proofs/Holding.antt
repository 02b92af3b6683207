-- The set of rows that the pages of a file hold, before rows go and come and afterwards.
use Rattle.std.proofs.Common.{◌≡◌, refl, sym, ap, subst, ◌∙◌, ℕ, Bool, true, false, not, cond, IsTrue, All, List, [], ◌∷◌, ◌++◌, filter, Option, Some, None, Result, Err}
use Rattle.std.specs.List.{list_any}
use Rattle.std.specs.List.Sorted.{IsPermutation}
use Rattle.std.proofs.lemmas.List.{map-append}
use Rattle.std.proofs.lemmas.List.Sorted.{IsPermutation-append_right, IsPermutation-map, IsPermutation-sym, IsPermutation-trans}
use Rattle.std.proofs.lemmas.Option.{none-some}
use Rattle.am_traits.specs.Causes.{HasFileCause, MayFail}
use Rattle.base_trait.specs.declared.fault.BaseFault.{BaseFault}
use Rattle.base_trait.specs.declared.fault.BaseFault.TheVariants.{Disk, Damaged, OutOfMemory}
use Rattle.am_traits.specs.Placed.{Placed, NowHolds, Replaced, SameButUsed, rows_differ, rows_of}
use Rattle.calculus.specs.declared.schema.RelFile.{RelFile}
use Rattle.calculus.specs.Replacement.{with_rows, without_rows}
use Rattle.calculus.specs.Rows.{Row, has, set_of}
use Rattle.calculus.specs.Value.{row_cmp}
use Rattle.calculus.proofs.Sets.{has-set_of}
use Rattle.calculus.specs.declared.value.Domain.{Domain}
use Rattle.disk_model.specs.Disk.{Image}
use Rattle.disk_model.specs.declared.disk.Addr.{Addr}
use Rattle.page_chain.specs.Lists.{◌>>=◌, once}
use Rattle.page_chain.specs.Pages.{pages_of}
use Rattle.page_chain.specs.Rows.{placed_on, reader, set_on}
use Rattle.heap_am.specs.Heap.{heap_rows, HeapFault, IsMade}
use Rattle.relation_rows.specs.Sets.{HasSet, HasNoneOf}
use Rattle.relation_rows.proofs.Once.{changed_set, once_differ, once_is}

-- the pages hold a set where their rows, in whatever places, are this set
pub record Holds (file : RelFile) (m : Image) (rows : List Row) : Type 0 where
  pub placed : Placed
  pub are : heap_rows file m ≡ Some placed
  pub set : once row_cmp (rows_of placed) ≡ Some rows

pub holds : (file : RelFile) (m : Image) (rows : List Row) → set_on (reader file.domains) file.used (pages_of m file.file) ≡ Some rows → Holds file m rows
unfolding set_on heap_rows
holds file m rows e = go (placed_on (reader file.domains) file.used (pages_of m file.file)) refl e
  where
    go : (o : Option Placed) → placed_on (reader file.domains) file.used (pages_of m file.file) ≡ o → (o >>= (λ placed. once row_cmp (rows_of placed))) ≡ Some rows → Holds file m rows
    go None is e = cc e
    go (Some placed) is e = record { placed = placed; are = is; set = e }

pub has_set : (domains : List Domain) (number : ℕ) (file : RelFile) (m : Image) (placed : Placed) (rows : List Row) (known : Option Image) → known ≡ Some m → file.domains ≡ domains → file.file ≡ number
    → heap_rows file m ≡ Some placed → once row_cmp (rows_of placed) ≡ Some rows → HasSet domains number file.used rows known
unfolding set_on heap_rows
has_set domains number file m placed rows known there ds same are set = record {
  image = m;
  still_known = there;
  are = (λ i. placed_on (reader (sym ds i)) file.used (pages_of m (sym same i)) >>= (λ placed. once row_cmp (rows_of placed)))
      ∙ ap (λ (o : Option Placed). o >>= (λ placed. once row_cmp (rows_of placed))) are
      ∙ set;
}

-- ---- rows that go and come

rows_that_stay : (remove : List Row) (placed : Placed) → rows_of (filter (λ p. not (has remove p.1)) placed) ≡ without_rows remove (rows_of placed)
rows_that_stay remove [] = refl
rows_that_stay remove (p ∷ placed) = go (has remove p.1) (rows_that_stay remove placed)
  where
    go : (b : Bool) → rows_of (filter (λ p. not (has remove p.1)) placed) ≡ without_rows remove (rows_of placed)
        → rows_of (cond (not b) (p ∷ filter (λ p. not (has remove p.1)) placed) (filter (λ p. not (has remove p.1)) placed)) ≡ cond (not b) (p.1 ∷ without_rows remove (rows_of placed)) (without_rows remove (rows_of placed))
    go true later = later
    go false later = ap (λ rows. p.1 ∷ rows) later

-- the rows on the pages are then those that stay and those that come
rows_replaced : (before : Placed) (remove add : List Row) (now : Placed) → Replaced before remove add now → IsPermutation (rows_of now) (without_rows remove (rows_of before) ++ add)
rows_replaced before remove add now r =
    IsPermutation-trans (rows_of now) (without_rows remove (rows_of before) ++ rows_of r.new) (without_rows remove (rows_of before) ++ add)
    (subst (IsPermutation (rows_of now)) (map-append (λ p. p.1) (filter (λ p. not (has remove p.1)) before) r.new ∙ ap (λ rows. rows ++ rows_of r.new) (rows_that_stay remove before))
    (IsPermutation-map (λ p. p.1) now (filter (λ p. not (has remove p.1)) before ++ r.new) r.all))
    (IsPermutation-append_right (without_rows remove (rows_of before)) (rows_of r.new) add (IsPermutation-sym add (rows_of r.new) r.came))

-- what is known of a file whose rows are replaced
abbrev pub IsReplaced : RelFile → RelFile → Image → List Row → List Row → Option Image → Bool → Type 0
IsReplaced file now m remove add known all =
    (placed : Placed) → heap_rows file m ≡ Some placed → rows_differ (rows_of placed) ≡ true → rows_differ remove ≡ true → All (λ row. IsTrue (has (rows_of placed) row)) remove
    → IsTrue all × NowHolds (heap_rows now) known (Replaced placed remove add)

-- the rows that go are there, once each
module _ (file now : RelFile) (m : Image) (rows remove add : List Row) (known : Option Image) (all : Bool) (set : set_on (reader file.domains) file.used (pages_of m file.file) ≡ Some rows)
    (differ : rows_differ remove ≡ true) (there : All (λ row. IsTrue (has rows row)) remove) (replaced : IsReplaced file now m remove add known all) where
  before : Holds file m rows
  before = holds file m rows set

  was : (rows_differ (rows_of before.placed) ≡ true) × (set_of (rows_of before.placed) ≡ rows)
  was = once_differ (rows_of before.placed) rows before.set

  same_rows : (q : Row) → has rows q ≡ has (rows_of before.placed) q
  same_rows q = ap (λ s. has s q) (sym was.1) ∙ has-set_of (rows_of before.placed) q

  says : IsTrue all × NowHolds (heap_rows now) known (Replaced before.placed remove add)
  says = replaced before.placed before.are was.0 differ (subst (λ (test : Row → Bool). All (λ row. IsTrue (test row)) remove) (λ i q. same_rows q i) there)

  -- so they went
  pub all_went : IsTrue all
  all_went = says.0

  -- and the set is another
  pub set_after : SameButUsed file now → rows_differ add ≡ true → list_any (has rows) add ≡ false → HasSet file.domains file.file now.used (with_rows add (without_rows remove rows)) known
  set_after same once_come new =
      let h = says.1 in
      has_set file.domains file.file now h.image h.rows (with_rows add (without_rows remove rows)) known h.still_known same.domains same.file h.are
      (changed_set remove add (rows_of before.placed) (rows_of h.rows) rows before.set once_come new (rows_replaced before.placed remove add h.rows h.so))

-- a page that is at fault is of a file that holds no such set
pub holds_none : (file : RelFile) (remove : List Row) (m : Image) (a : Addr) → HeapFault file m a → HasNoneOf file remove m a
holds_none file remove m a fault rows set differ there = let h = holds file m rows set in none-some h.placed (sym fault.none ∙ h.are)

-- ---- a file that is made

pub set_built : (file made : RelFile) (rows : List Row) (known : Option Image) → IsMade file made → rows_differ rows ≡ true → NowHolds (heap_rows made) known (λ placed. rows_of placed ≡ rows)
    → HasSet file.domains file.file made.used (set_of rows) known
set_built file made rows known is differ h =
    has_set file.domains file.file made h.image h.rows (set_of rows) known h.still_known is.domains is.file h.are (ap (once row_cmp) h.so ∙ once_is rows differ)

-- ---- why rows don't go and come

-- a fault of the pages is one of a file that holds no such set
pub fault_known : {T U : Type 0} (file opened : RelFile) (remove : List Row) (known : Option Image) (before later : ℕ) (s : Result U BaseFault) (e : BaseFault) → opened ≡ file
    → HasFileCause {T = T} known (HeapFault opened) before later (Err e) → s ≡ Err e → HasFileCause {T = U} known (HasNoneOf file remove) before later s
fault_known file opened remove known before later s e same h is =
    subst (HasFileCause known (HasNoneOf file remove) before later) (sym is) (record { later = h.later; caused = by_fault e h.caused })
  where
    by_fault : (e : BaseFault) → MayFail known (HeapFault opened) before later e → MayFail known (HasNoneOf file remove) before later e
    by_fault Disk h = h
    by_fault (Damaged f p) h = (λ m t. holds_none file remove m (record { file = f; page = p }) (subst (λ file. HeapFault file m (record { file = f; page = p })) same (h.0 m t)), h.1)
    by_fault OutOfMemory h = h
