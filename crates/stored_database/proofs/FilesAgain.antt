-- The files that a catalogue says are files that its database may have.
use Rattle.std.proofs.Common.{◌≡◌, refl, sym, ap, ◌∙◌, inl, inr, ℕ, ◌&&◌, ◌||◌, not, nat_eq, nat_le, Bool, true, false, List, [], ◌∷◌, map, Some}
use Rattle.std.proofs.lemmas.Bool.Decides.{nat_tests}
use Rattle.std.proofs.Common.{arith}
use Rattle.std.specs.List.{AllByRecursion, list_all, list_any}
use Rattle.std.specs.Ordering.{nat_cmp}
use Rattle.std.proofs.lemmas.Cmp.{nat_cmp_total, tied_itself}
use Rattle.calculus.specs.declared.schema.RelInfo.{RelInfo}
use Rattle.calculus.specs.Database as database
use Rattle.calculus.specs.Keys.{same_key}
use Rattle.calculus.specs.Lists.{differ_by}
use Rattle.calculus.specs.Structures.{is_structure}
use Rattle.page_chain.specs.Lists.{◌>>=◌}
use Rattle.page_chain.specs.Pages.{Pages}
use Rattle.page_chain.specs.Rows.{set_on, reader}
use Rattle.stored_database.specs.Catalogue.{Catalogue, IsCatalogue}
use Rattle.stored_database.specs.Entries.{Entry}
use Rattle.stored_database.specs.Laws.{WhatIsReadIsPrinted}
use Rattle.stored_database.specs.Names.{is_number32}
use Rattle.stored_database.specs.Printed.{HasFiles, files_in, is_file, rows_in, printed}
use Rattle.stored_database.specs.Spelled.{relation_of}
use Rattle.stored_database.proofs.ColumnsAgain.{all_columns_again}
use Rattle.stored_database.proofs.EntriesAgain.{entries_again, entry_stands, some_pages}
use Rattle.stored_database.proofs.EntryBytes.{stands}
use Rattle.stored_database.proofs.Infos.{of_info, file_is, used_is}
use Rattle.stored_database.proofs.Members.{IsIn, tests_of, all_of, filter_in}
use Rattle.stored_database.proofs.Orders.{entry_total, same_key_itself}
use Rattle.stored_database.proofs.Reading.{both, together}
use Rattle.stored_database.proofs.Sets.{sorted_exact}
use Rattle.stored_database.proofs.SpelledParts.{Spells, spells, relation_parts}
use Rattle.stored_database.proofs.TreesAgain.{parts_again}

-- what differs by one part differs by another, where what is the same in that is the same in the first
pub differ_too : {A K L : Type 0} (same : K → K → Bool) (alike : L → L → Bool) (k : A → K) (l : A → L) (xs : List A)
    → ((a b : A) → IsIn a xs → IsIn b xs → alike (l a) (l b) ≡ true → same (k a) (k b) ≡ true) → differ_by same (map k xs) ≡ true → differ_by alike (map l xs) ≡ true
differ_too same alike k l [] h differ = refl
differ_too {A} {K} {L} same alike k l (x ∷ xs) h differ =
    let t = both (not (list_any (same (k x)) (map k xs))) (differ_by same (map k xs)) differ in
    together (not (list_any (alike (l x)) (map l xs))) (differ_by alike (map l xs)) (none xs (λ y at. h x y (inl refl) (inr at)) t.0) (differ_too same alike k l xs (λ a b at bt. h a b (inr at) (inr bt)) t.1)
  where
    none : (ys : List A) → ((y : A) → IsIn y ys → alike (l x) (l y) ≡ true → same (k x) (k y) ≡ true) → not (list_any (same (k x)) (map k ys)) ≡ true → not (list_any (alike (l x)) (map l ys)) ≡ true
    none [] h n = refl
    none (y ∷ ys) h n = go (alike (l x) (l y)) (same (k x) (k y)) refl refl (none ys (λ y at. h y (inr at)))
      where
        go : (s t : Bool) → alike (l x) (l y) ≡ s → same (k x) (k y) ≡ t → (not (list_any (same (k x)) (map k ys)) ≡ true → not (list_any (alike (l x)) (map l ys)) ≡ true) → not (alike (l x) (l y) || list_any (alike (l x)) (map l ys)) ≡ true
        go s true e f later = cc (ap (λ t. not (t || list_any (same (k x)) (map k ys))) f, n)
        go true false e f later = cc (h y (inl refl) e, f)
        go false false e f later =
            ap (λ t. not (t || list_any (alike (l x)) (map l ys))) e
            ∙ later (sym (ap (λ t. not (t || list_any (same (k x)) (map k ys))) f) ∙ n)

module _ (files : ℕ → Pages) (cat : Catalogue) (db : database.Db) (s : Spells files cat db) (is_cat : IsCatalogue cat)
    (differ : differ_by same_key (map (λ i. i.key) (database.entries db)) ≡ true) where
  -- what is known is known of an entry with that file
  file_of : (i : RelInfo) → IsIn i (database.entries db) → (e : Entry) × IsIn e cat.entries × (i.key ≡ e.key) × ((files_in cat).file i.key ≡ e.file)
  file_of i at =
      let o = of_info files cat db s i at in
      (o.0, o.1, o.2.key, ap (files_in cat).file o.2.key ∙ file_is files cat db s differ o.0 o.1)

  are_files : list_all (λ i. is_file ((files_in cat).file i.key)) (database.entries db) ≡ true
  are_files = tests_of (λ i. is_file ((files_in cat).file i.key)) (database.entries db)
      (λ i at. (let o = file_of i at in let t = stands o.0 (entry_stands files cat db s is_cat differ o.0 o.1) in ap is_file o.3 ∙ together (nat_le 16 o.0.file) (is_number32 o.0.file) t.from t.file))

  same_file : (i j : RelInfo) → IsIn i (database.entries db) → IsIn j (database.entries db) → nat_eq ((files_in cat).file i.key) ((files_in cat).file j.key) ≡ true → same_key i.key j.key ≡ true
  same_file i j at bt h =
      let a = file_of i at in
      let b = file_of j bt in
      let same : a.0.file ≡ b.0.file = sym a.3 ∙ same_nat ((files_in cat).file i.key) ((files_in cat).file j.key) h ∙ b.3 in
      let one : a.0 ≡ b.0 = sorted_exact entry_total cat.entries is_cat.entries_ascend a.0 b.0 a.1 b.1 (ap (nat_cmp a.0.file) (sym same) ∙ tied_itself nat_cmp_total a.0.file) in
      (λ k. same_key (a.2 k) (b.2 k)) ∙ ap (λ (e : Entry). same_key a.0.key e.key) (sym one) ∙ same_key_itself a.0.key
    where
      same_nat : (m n : ℕ) → nat_eq m n ≡ true → m ≡ n
      same_nat m n h = grind (arith, nat_tests)

  files_differ : differ_by nat_eq (map (λ i. (files_in cat).file i.key) (database.entries db)) ≡ true
  files_differ = differ_too same_key nat_eq (λ i. i.key) (λ i. (files_in cat).file i.key) (database.entries db) same_file differ

  -- what is read of an entry with those pages
  relation_of_file : (r : database.Relation) → IsIn r db.relations → (e : Entry) × IsIn e cat.entries × (is_structure e.spec ≡ true) × (relation_of files cat e ≡ Some r)
      × ((files_in cat).file r.info.key ≡ e.file) × ((files_in cat).used r.info.key ≡ e.used)
  relation_of_file r at =
      let o = s.relations.from r at in
      let f = filter_in (λ e. is_structure e.spec) cat.entries o.0 o.1 in
      let key = ap (λ (i : RelInfo). i.key) (relation_parts files cat o.0 r o.2).info in
      (o.0, f.0, f.1, o.2, ap (files_in cat).file key ∙ file_is files cat db s differ o.0 f.0, ap (files_in cat).used key ∙ used_is files cat db s differ o.0 f.0)

  have_pages : list_all (λ r. nat_le 1 ((files_in cat).used r.info.key) && is_number32 ((files_in cat).used r.info.key)) db.relations ≡ true
  have_pages = tests_of (λ r. nat_le 1 ((files_in cat).used r.info.key) && is_number32 ((files_in cat).used r.info.key)) db.relations
      (λ r at. (let o = relation_of_file r at in
      let t = stands o.0 (entry_stands files cat db s is_cat differ o.0 o.1) in
      ap (λ n. nat_le 1 n && is_number32 n) o.5 ∙ together (nat_le 1 o.0.used) (is_number32 o.0.used) (some_pages files cat db s is_cat differ o.0 o.1 o.2) t.used))

  have_rows : AllByRecursion (λ r. rows_in files (files_in cat) r ≡ Some r.rows) db.relations
  unfolding rows_in
  have_rows = all_of (λ r. rows_in files (files_in cat) r ≡ Some r.rows) db.relations
      (λ r at. (let o = relation_of_file r at in
      let p = relation_parts files cat o.0 r o.3 in
      ap (λ ds. ds >>= (λ domains. set_on (reader domains) ((files_in cat).used r.info.key) (files ((files_in cat).file r.info.key)))) p.domains_are
      ∙ (λ i. set_on (reader p.domains) (o.5 i) (files (o.4 i))) ∙ p.rows))

  pub has_files : HasFiles db files (files_in cat)
  has_files = record { are_files = are_files; files_differ = files_differ; some_pages = have_pages; rows = have_rows }

  pub is_printed : cat ≡ printed db (files_in cat)
  unfolding printed
  is_printed = λ i. record {
    entries = entries_again files cat db s is_cat differ i;
    columns = all_columns_again files cat db s is_cat differ i;
    parts = parts_again files cat db s is_cat differ i;
  }

pub what_is_read_is_printed : WhatIsReadIsPrinted
what_is_read_is_printed dba files cat db is_cat h is_one =
    let s = spells dba files cat db h in
    (is_printed files cat db s is_cat is_one.keys_differ, has_files files cat db s is_cat is_one.keys_differ)
