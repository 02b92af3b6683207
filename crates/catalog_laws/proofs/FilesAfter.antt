-- Files that a database may have, by its catalogue alone: those of a catalogue that is read, and those after a change.
use Rattle.std.proofs.Common.{◌≡◌, sym, ap, subst, ◌∙◌, inl, inr, ℕ, ◌==◌, ◌&&◌, nat_le, not, Bool, true, Some}
use Rattle.std.specs.List.{list_all}
use Rattle.calculus.specs.declared.change.DbChange.{DbChange}
use Rattle.calculus.specs.declared.change.DbChange.TheVariants as change
use Rattle.calculus.specs.declared.query.RelKey.{RelKey}
use Rattle.calculus.specs.declared.schema.RelInfo.{RelInfo}
use Rattle.calculus.specs.declared.schema.Spec.{Spec}
use Rattle.calculus.specs.declared.schema.Spec.TheVariants.{Heap, Hash, Isam, View, Index}
use Rattle.calculus.specs.Change.{IsLawful, laid}
use Rattle.calculus.specs.Database.{Db, Relation, entries}
use Rattle.calculus.specs.Keys.{same_key}
use Rattle.calculus.specs.Lists.{is_any}
use Rattle.stored_database.specs.Catalogue.{IsCatalogue}
use Rattle.stored_database.specs.Entries.{Entry, is_entry, is_one_chain, has_no_pages, suits_spec}
use Rattle.stored_database.specs.Names.{is_number32}
use Rattle.stored_database.specs.Printed.{Files, MayHave, is_file, printed, relation_entry}
use Rattle.stored_database.specs.Spelled.{entry_at}
use Rattle.stored_database.proofs.EntryBytes.{stands}
use Rattle.stored_database.proofs.Members.{IsIn, of_all, of_tests, tests_of}
use Rattle.stored_database.proofs.Orders.{same_key_is, same_key_itself}
use Rattle.stored_database.proofs.PrintedEntries.{relations_at}
use Rattle.stored_database.proofs.Reading.{both, together}
use Rattle.stored_database.proofs.SpelledParts.{entry_found}
use Rattle.stored_database.specs.ChangeLaws.{Agree, FilesDiffer}
use Rattle.stored_database.proofs.Staying.{info_there, relation_is}
use Rattle.catalog_moves.specs.Files.{files_after, placed_key, with_file}
use Rattle.catalog_laws.specs.Placed.{Suits, is_used}
use Rattle.catalog_laws.proofs.Agreeing.{files_agree, files_differ_after, new_file, file_same, used_same}
use Rattle.catalog_laws.proofs.From.{IsChanged, relation_from, info_from, found_under}

-- ---- by what is read

-- the entry of a relation says at least one page
has_pages : (f : Files) (r : Relation) → suits_spec (relation_entry f r) ≡ true → nat_le 1 (f.used r.info.key) ≡ true
unfolding suits_spec
has_pages f r h = go r.info.spec h
  where
    one : ((0 == 0) && is_one_chain (relation_entry f r)) ≡ true → nat_le 1 (f.used r.info.key) ≡ true
    one h = (both (0 == 0) (nat_le 1 (f.used r.info.key)) (both (1 == 1) _ (both (0 == 0) (is_one_chain (relation_entry f r)) h).1).1).1

    go : (s : Spec)
        → (elim s as (λ (s : Spec). Bool) [
          | Heap ↦ (0 == 0) && is_one_chain (relation_entry f r)
          | Hash ↦ (0 == 0) && is_one_chain (relation_entry f r)
          | Isam ↦ (0 == 0) && is_one_chain (relation_entry f r)
          | View ↦ (0 == 0) && (has_no_pages (relation_entry f r) && not (is_any r.info.keys))
          | Index ↦ has_no_pages (relation_entry f r)
        ]) ≡ true → nat_le 1 (f.used r.info.key) ≡ true
    go Heap h = one h
    go Hash h = one h
    go Isam h = one h
    go View h = cc h
    go Index h = cc h

-- the files of a catalogue that is read are some that its database may have
pub may_have_read : (db : Db) (f : Files) → list_all (λ i. is_file (f.file i.key)) (entries db) ≡ true → FilesDiffer db f → IsCatalogue (printed db f) → MayHave db f
may_have_read db f are differ is = record {
  are_files = are;
  files_differ = differ;
  some_pages = tests_of (λ (r : Relation). nat_le 1 (f.used r.info.key) && is_number32 (f.used r.info.key)) db.relations (λ r at. (
      let e : Entry = relation_entry f r in
      let found = of_all (λ (r : Relation). entry_at (printed db f) (f.file r.info.key) ≡ Some (relation_entry f r)) db.relations r (relations_at f db differ) at in
      let its = stands e (of_all (λ (e : Entry). is_entry e ≡ true) (printed db f).entries e is.are_entries (entry_found (printed db f) (f.file r.info.key) e found).0) in
      together (nat_le 1 (f.used r.info.key)) (is_number32 (f.used r.info.key)) (has_pages f r its.suits) its.used));
}

-- ---- after a change

module _ (db : Db) (f : Files) (file used : ℕ) (may : MayHave db f) where
  -- a number of pages that is given to a relation
  given : (k rel : RelKey) → same_key k rel ≡ true → is_used used → is_used ((with_file rel file used f).used k)
  given k rel e h = ap (λ (n : ℕ). nat_le 1 n && is_number32 n) (used_same k rel file used f e) ∙ h

  -- and that of one that is there
  had : (r : Relation) → IsIn r db.relations → is_used (f.used r.info.key)
  had r at = of_tests (λ (r : Relation). nat_le 1 (f.used r.info.key) && is_number32 (f.used r.info.key)) db.relations r may.some_pages at

  changed_used : (made : DbChange) → Suits made f file used → (s : Relation) → IsChanged made db s → is_used ((files_after made file used f).used s.info.key)
  unfolding Suits IsChanged files_after placed_key
  changed_used (change.Rows rel remove add) suits s c = subst (λ (s : Relation). is_used ((with_file rel file used f).used s.info.key)) (sym c.3) (given c.0.info.key rel c.2 suits.1)
  changed_used (change.Create info rows) suits s c = subst (λ (s : Relation). is_used ((with_file info.key file used f).used s.info.key)) (sym c) (given info.key info.key (same_key_itself info.key) suits.1)
  changed_used (change.Destroy rels) suits s c = absurd c
  changed_used (change.Modify rel to keys) suits s c =
      subst (λ (s : Relation). is_used ((with_file rel file used f).used s.info.key)) (sym c.3)
      (given c.0.info.key rel c.2 (ap (λ (n : ℕ). nat_le 1 n && is_number32 n) (suits.1 ∙ ap f.used (sym (same_key_is c.0.info.key rel c.2))) ∙ had c.0 c.1))
  changed_used (change.Index base name keys) suits s c = absurd c
  changed_used (change.View info query) suits s c = absurd c
  changed_used (change.Permit rel permit) suits s c = absurd c
  changed_used (change.Rule rel rule) suits s c = absurd c
  changed_used (change.DropPermits rel numbers) suits s c = absurd c
  changed_used (change.DropRules rel numbers) suits s c = absurd c

  module _ (made : DbChange) (lawful : IsLawful db made) (suits : Suits made f file used) where
    after : Files
    after = files_after made file used f

    agree : Agree db made f after
    unfolding after
    agree = files_agree made db f file used lawful suits

    each_used : (s : Relation) → IsIn s (laid db made).relations → is_used (after.used s.info.key)
    unfolding after
    each_used s at = elim (relation_from made db s at) [
      | inl k ↦ ap (λ (n : ℕ). nat_le 1 n && is_number32 n) (agree.used_stays s.info.key (relation_is db s k.0) (relation_is (laid db made) s at) k.1) ∙ had s k.0
      | inr c ↦ changed_used made suits s c
    ]

    each_file : (i : RelInfo) → IsIn i (entries (laid db made)) → is_file (after.file i.key) ≡ true
    unfolding after
    each_file i at = elim (info_from made db i at) [
      | inl there ↦ (
          let j = found_under db i.key there in
          ap is_file (agree.file_stays i.key there (info_there (laid db made) i at) ∙ ap f.file (sym j.2)) ∙ of_tests (λ (i : RelInfo). is_file (f.file i.key)) (entries db) j.0 may.are_files j.1)
      | inr e ↦ (
          let n = new_file made f file used i.key suits e in
          ap (λ (g : Files). is_file (g.file i.key)) n.1 ∙ ap is_file (file_same i.key i.key file used f (same_key_itself i.key)) ∙ n.0.number)
    ]

    -- the files after a change are some that the database after it may have
    pub may_have_after : MayHave (laid db made) (files_after made file used f)
    unfolding after
    may_have_after = record {
      are_files = tests_of (λ (i : RelInfo). is_file (after.file i.key)) (entries (laid db made)) each_file;
      files_differ = files_differ_after made db f file used lawful may.files_differ suits;
      some_pages = tests_of (λ (r : Relation). nat_le 1 (after.used r.info.key) && is_number32 (after.used r.info.key)) (laid db made).relations each_used;
    }
