-- The attributes of a printed catalogue: those of a file are those of what has the file.
use Rattle.std.proofs.Common.{◌≡◌, refl, sym, ap, ap₂, ◌∙◌, true≢false, ℕ, suc, ◌<◌, ◌==◌, not, true, List, [], ◌∷◌, map, filter, Some, arith}
use Rattle.std.specs.Prelude.{nat_eq}
use Rattle.std.proofs.lemmas.Bool.{and_from}
use Rattle.std.proofs.lemmas.Cmp.{nat_cmp_total, tied_itself}
use Rattle.std.specs.List.{AllByRecursion, flat_map}
use Rattle.std.specs.List.Sorted.{IsStrictlySortedBy}
use Rattle.std.specs.Ordering.{is_eq, nat_cmp, ordering_then}
use Rattle.std.specs.declared.cmp.Ordering.{Ordering}
use Rattle.std.specs.declared.cmp.Ordering.TheVariants.{Less, Equal, Greater}
use Rattle.calculus.specs.declared.schema.Attr.{Attr}
use Rattle.calculus.specs.declared.schema.RelInfo.{RelInfo}
use Rattle.calculus.specs.Database.{Db, entries}
use Rattle.calculus.specs.Lists.{differ_by}
use Rattle.calculus.specs.Structures.{is_index}
use Rattle.page_chain.specs.Lists.{when, are_from, in_order}
use Rattle.stored_database.specs.Columns.{Column, column_cmp}
use Rattle.stored_database.specs.Printed.{Files, columns_from, columns_for, printed}
use Rattle.stored_database.specs.Spelled.{entry_is, attrs_of, columns_stand}
use Rattle.stored_database.proofs.Pairs.{all_then, all_flat, all_pass}
use Rattle.stored_database.proofs.InOrder.{all_in_order}
use Rattle.stored_database.proofs.Groups.{Grouped, groups_found}
use Rattle.stored_database.proofs.Orders.{column_total}
use Rattle.stored_database.proofs.PrintedEntries.{nat_equal, nat_less, equal_turned, infos_differ}
use Rattle.stored_database.proofs.Reading.{number_itself}

-- ---- orders

-- what is the same first, and then less, is less
pub then_less : (m : ℕ) (o : Ordering) → o ≡ Less → ordering_then (nat_cmp m m) o ≡ Less
then_less m o e = ap₂ ordering_then (tied_itself nat_cmp_total m) e

-- what is equal one after the other is equal in both
pub then_equal : (o p : Ordering) → is_eq (ordering_then o p) ≡ true → (is_eq o ≡ true) × (is_eq p ≡ true)
then_equal Less p e = absurd (true≢false (sym e))
then_equal Equal p e = (refl, e)
then_equal Greater p e = absurd (true≢false (sym e))

-- ---- the columns of a file

pub columns_decide : (n file place : ℕ) (attrs : List Attr) → AllByRecursion (λ (c : Column). (c.file == n) ≡ (file == n)) (columns_from file place attrs)
unfolding columns_from
columns_decide n file place [] = tt
columns_decide n file place (a ∷ attrs) = (refl, columns_decide n file (suc place) attrs)

columns_behind : (file place later : ℕ) (a : Attr) (attrs : List Attr) → place < later
    → AllByRecursion (λ c. column_cmp (record { file = file; place = place; attr = a }) c ≡ Less) (columns_from file later attrs)
unfolding columns_from
columns_behind file place later a [] less = tt
columns_behind file place later a (b ∷ attrs) less = (then_less file (nat_cmp place later) (nat_less place later less), columns_behind file place (suc later) a attrs (omega arith))

pub columns_ascend : (file place : ℕ) (attrs : List Attr) → IsStrictlySortedBy column_cmp (columns_from file place attrs)
unfolding columns_from IsStrictlySortedBy
columns_ascend file place [] = tt
columns_ascend file place (a ∷ attrs) = (columns_behind file place (suc place) a attrs (omega arith), columns_ascend file (suc place) attrs)

columns_count : (file place : ℕ) (attrs : List Attr) → are_from (λ (c : Column). c.place) place (columns_from file place attrs) ≡ true
unfolding columns_from
columns_count file place [] = refl
columns_count file place (a ∷ attrs) = and_from (place == place) (are_from (λ (c : Column). c.place) (suc place) (columns_from file (suc place) attrs)) (number_itself place) (columns_count file (suc place) attrs)

columns_hold : (file place : ℕ) (attrs : List Attr) → map (λ (c : Column). c.attr) (columns_from file place attrs) ≡ attrs
unfolding columns_from
columns_hold file place [] = refl
columns_hold file place (a ∷ attrs) = ap (λ l. a ∷ l) (columns_hold file (suc place) attrs)

-- what holds of the file holds of the file of each column
pub columns_of_file : (P : ℕ → Type 0) (file place : ℕ) (attrs : List Attr) → P file → AllByRecursion (λ (c : Column). P c.file) (columns_from file place attrs)
unfolding columns_from
columns_of_file P file place [] it = tt
columns_of_file P file place (a ∷ attrs) it = (it, columns_of_file P file (suc place) attrs it)

-- where there are no attributes there is no column
pub no_columns : (P : Column → Type 0) (file place : ℕ) → AllByRecursion P (columns_from file place [])
unfolding columns_from
no_columns P file place = tt

-- ---- all columns

module _ (f : Files) where
  abbrev columns_at : RelInfo → List Column
  columns_at i = columns_from (f.file i.key) 0 i.attrs

  -- the columns of each entry, by its file
  grouped_columns : Grouped column_cmp columns_at (λ i c. c.file == f.file i.key) (λ i j. f.file j.key == f.file i.key)
  grouped_columns = record {
    order = column_total;
    tests = λ i j. columns_decide (f.file i.key) (f.file j.key) 0 j.attrs;
    equals = λ i a b e. ap (λ n. n == f.file i.key) (nat_equal a.file b.file (then_equal (nat_cmp a.file b.file) (nat_cmp a.place b.place) e).0);
    itself = λ i. number_itself (f.file i.key);
    turned = λ i j. equal_turned (f.file j.key) (f.file i.key);
    ascends = λ i. columns_ascend (f.file i.key) 0 i.attrs;
  }

  module _ (db : Db) (differ : differ_by nat_eq (map (λ i. f.file i.key) (entries db)) ≡ true) where
    -- the attributes of each are found by its file
    pub attrs_at : AllByRecursion (λ i. attrs_of (printed db f) (f.file i.key) ≡ Some i.attrs) (entries db)
    unfolding attrs_of printed columns_for
    attrs_at =
        all_then (λ i. filter (λ (c : Column). c.file == f.file i.key) (in_order column_cmp (flat_map columns_at (entries db))) ≡ columns_at i) (λ i. attrs_of (printed db f) (f.file i.key) ≡ Some i.attrs) (entries db)
        (λ i is. ap (λ (l : List Column). when (are_from (λ c. c.place) 0 l) (map (λ c. c.attr) l)) is ∙ ap₂ when (columns_count (f.file i.key) 0 i.attrs) (columns_hold (f.file i.key) 0 i.attrs))
        (groups_found grouped_columns (entries db) (infos_differ f db differ))

    -- the columns stand, where the entry of each that has attributes is no index
    pub columns_do_stand : AllByRecursion (λ i. AllByRecursion (λ (c : Column). entry_is (λ s. not (is_index s)) (printed db f) c.file ≡ true) (columns_at i)) (entries db) → columns_stand (printed db f) ≡ true
    unfolding columns_stand printed columns_for
    columns_do_stand all =
        all_pass (λ (c : Column). entry_is (λ s. not (is_index s)) (printed db f) c.file) (in_order column_cmp (flat_map columns_at (entries db)))
        (all_in_order column_cmp (λ (c : Column). entry_is (λ s. not (is_index s)) (printed db f) c.file ≡ true) (flat_map columns_at (entries db))
        (all_flat (λ (c : Column). entry_is (λ s. not (is_index s)) (printed db f) c.file ≡ true) columns_at (entries db) all))
