-- The entries of a printed catalogue: each is found by its file.
use Rattle.std.proofs.Common.{◌≡◌, refl, sym, ap, subst, ◌∙◌, true≢false, ℕ, ◌<◌, ◌==◌, Bool, true, false, cond, List, [], ◌∷◌, ◌++◌, map, filter, find, Some}
use Rattle.std.specs.Prelude.{nat_eq, nat_lt}
use Rattle.std.proofs.lemmas.Bool.{lt-ltb, eqb-true}
use Rattle.std.proofs.lemmas.Cmp.{nat_eq_equiv}
use Rattle.std.specs.List.{AllByRecursion, flat_map}
use Rattle.std.specs.List.Sorted.{IsStrictlySortedBy}
use Rattle.std.specs.Ordering.{is_eq, nat_cmp}
use Rattle.std.specs.declared.cmp.Ordering.TheVariants.{Less, Equal, Greater}
use Rattle.calculus.specs.declared.schema.RelInfo.{RelInfo}
use Rattle.calculus.specs.Database.{Db, Index, entries}
use Rattle.calculus.specs.Lists.{differ_by}
use Rattle.page_chain.specs.Lists.{in_order}
use Rattle.stored_database.specs.Entries.{Entry, entry_cmp}
use Rattle.stored_database.specs.Printed.{Files, relation_entry, view_entry, index_entry, entries_for, printed}
use Rattle.stored_database.specs.Spelled.{entry_at}
use Rattle.stored_database.proofs.Pairs.{Pairs, all_then, all_front, all_behind, all_unmap, pairs_then, pairs_unmap, differ_pairs}
use Rattle.stored_database.proofs.InOrder.{NoneEqual}
use Rattle.stored_database.proofs.Groups.{Grouped, groups_apart, groups_found, find_one}
use Rattle.stored_database.proofs.Orders.{entry_total}
use Rattle.stored_database.proofs.Reading.{number_itself}

-- ---- numbers

-- equal numbers are one
pub nat_equal : (m n : ℕ) → is_eq (nat_cmp m n) ≡ true → m ≡ n
nat_equal m n e = go (nat_lt m n) (m == n) refl e
  where
    go : (b c : Bool) → (m == n) ≡ c → is_eq (cond b Less (cond c Equal Greater)) ≡ true → m ≡ n
    go true c is e = absurd (true≢false (sym e))
    go false true is e = eqb-true m n is
    go false false is e = absurd (true≢false (sym e))

pub nat_less : (m n : ℕ) → m < n → nat_cmp m n ≡ Less
nat_less m n h = ap (λ b. cond b Less (cond (m == n) Equal Greater)) (lt-ltb m n h)

pub equal_turned : (m n : ℕ) → (m == n) ≡ (n == m)
equal_turned m n = nat_eq_equiv.symm m n

-- ---- entries

-- each entry alone, by its file
pub grouped_entries : Grouped entry_cmp (λ e. e ∷ []) (λ (e a : Entry). a.file == e.file) (λ (e a : Entry). a.file == e.file)
unfolding IsStrictlySortedBy
grouped_entries = record {
  order = entry_total;
  tests = λ x y. (refl, tt);
  equals = λ x a b e. ap (λ n. n == x.file) (nat_equal a.file b.file e);
  itself = λ x. number_itself x.file;
  turned = λ x y. equal_turned y.file x.file;
  ascends = λ x. (tt, tt);
}

pub singles : {A : Type 0} (xs : List A) → flat_map (λ x. x ∷ []) xs ≡ xs
singles [] = refl
singles (x ∷ xs) = ap (λ l. x ∷ l) (singles xs)

module _ (f : Files) where
  -- the files of entries are those of what they are entries of
  files_of : {X : Type 0} (h : X → Entry) (k : X → RelInfo) → ((x : X) → (h x).file ≡ f.file (k x).key) → (xs : List X) (es : List Entry) (infos : List RelInfo)
      → map (λ e. e.file) es ≡ map (λ i. f.file i.key) infos → map (λ e. e.file) (map h xs ++ es) ≡ map (λ i. f.file i.key) (map k xs ++ infos)
  files_of h k same [] es infos e = e
  files_of h k same (x ∷ xs) es infos e = λ t. same x t ∷ files_of h k same xs es infos e t

  file_numbers : (db : Db) → map (λ e. e.file) (entries_for f db) ≡ map (λ i. f.file i.key) (entries db)
  unfolding entries_for
  file_numbers db =
      files_of (relation_entry f) (λ r. r.info) (λ r. refl) db.relations _ _
      (files_of (view_entry f) (λ v. v.info) (λ v. refl) db.views _ _ (last_files db.indexes))
    where
      last_files : (xs : List Index) → map (λ e. e.file) (map (index_entry f) xs) ≡ map (λ i. f.file i.key) (map (λ x. x.info) xs)
      last_files [] = refl
      last_files (x ∷ xs) = ap (λ l. f.file x.info.key ∷ l) (last_files xs)

  module _ (db : Db) (differ : differ_by nat_eq (map (λ i. f.file i.key) (entries db)) ≡ true) where
    -- what stands in a database has files that differ
    pub infos_differ : Pairs (λ i j. (f.file j.key == f.file i.key) ≡ false) (entries db)
    infos_differ = pairs_unmap (λ (m n : ℕ). (n == m) ≡ false) (λ (i : RelInfo). f.file i.key) (entries db)
        (pairs_then (λ (m n : ℕ). (m == n) ≡ false) (λ (m n : ℕ). (n == m) ≡ false) _ (λ m n e. equal_turned n m ∙ e) (differ_pairs nat_eq _ differ))

    pub entries_differ : Pairs (λ (a b : Entry). (b.file == a.file) ≡ false) (entries_for f db)
    entries_differ = pairs_unmap (λ (m n : ℕ). (n == m) ≡ false) (λ (e : Entry). e.file) (entries_for f db)
        (pairs_then (λ (m n : ℕ). (m == n) ≡ false) (λ (m n : ℕ). (n == m) ≡ false) _ (λ m n e. equal_turned n m ∙ e)
        (differ_pairs nat_eq _ (ap (differ_by nat_eq) (file_numbers db) ∙ differ)))

    pub entries_apart : NoneEqual entry_cmp (entries_for f db)
    entries_apart = subst (NoneEqual entry_cmp) (singles (entries_for f db)) (groups_apart grouped_entries (entries_for f db) entries_differ)

    -- each entry is found by its file
    pub entries_at : AllByRecursion (λ e. entry_at (printed db f) e.file ≡ Some e) (entries_for f db)
    unfolding printed entry_at
    entries_at =
        all_then (λ e. filter (λ (a : Entry). a.file == e.file) (in_order entry_cmp (flat_map (λ x. x ∷ []) (entries_for f db))) ≡ e ∷ []) (λ e. find (λ a. a.file == e.file) (in_order entry_cmp (entries_for f db)) ≡ Some e) (entries_for f db)
        (λ e is. find_one (λ (a : Entry). a.file == e.file) e (in_order entry_cmp (entries_for f db)) (subst (λ es. filter (λ (a : Entry). a.file == e.file) (in_order entry_cmp es) ≡ e ∷ []) (singles (entries_for f db)) is))
        (groups_found grouped_entries (entries_for f db) entries_differ)

    pub relations_at : AllByRecursion (λ r. entry_at (printed db f) (f.file r.info.key) ≡ Some (relation_entry f r)) db.relations
    unfolding entries_for
    relations_at =
        all_unmap (λ e. entry_at (printed db f) e.file ≡ Some e) (relation_entry f) db.relations
        (all_front (λ e. entry_at (printed db f) e.file ≡ Some e) (map (relation_entry f) db.relations) (map (view_entry f) db.views ++ map (index_entry f) db.indexes) entries_at)

    others_at : AllByRecursion (λ e. entry_at (printed db f) e.file ≡ Some e) (map (view_entry f) db.views ++ map (index_entry f) db.indexes)
    unfolding entries_for
    others_at = all_behind (λ e. entry_at (printed db f) e.file ≡ Some e) (map (relation_entry f) db.relations) (map (view_entry f) db.views ++ map (index_entry f) db.indexes) entries_at

    pub views_at : AllByRecursion (λ v. entry_at (printed db f) (f.file v.info.key) ≡ Some (view_entry f v)) db.views
    views_at =
        all_unmap (λ e. entry_at (printed db f) e.file ≡ Some e) (view_entry f) db.views
        (all_front (λ e. entry_at (printed db f) e.file ≡ Some e) (map (view_entry f) db.views) (map (index_entry f) db.indexes) others_at)
