-- What the pages of the catalogues spell when a change was applied, or another file was said.
use Rattle.std.proofs.Common.{◌≡◌, refl, sym, ap, subst, ◌∙◌, ℕ, ◌&&◌, nat_le, Bool, true, false, [], ◌∷◌, map, not, Option, Some, Result, Ok, Err, OnOk}
use Rattle.std.specs.Prelude.{is_some}
use Rattle.std.proofs.lemmas.Option.{same_Some}
use Rattle.calculus.specs.declared.change.DbChange.{DbChange}
use Rattle.calculus.specs.declared.change.DbChange.TheVariants as change
use Rattle.calculus.specs.declared.query.RelKey.{RelKey}
use Rattle.calculus.specs.Change.{IsLawful, laid, names_what_is_there}
use Rattle.calculus.specs.declared.schema.RelInfo.{RelInfo}
use Rattle.calculus.specs.Database.{Db, Relation, entry_at, is_relation, is_there}
use Rattle.calculus.specs.declared.schema.Spec.{Spec}
use Rattle.calculus.specs.declared.schema.Spec.TheVariants.{Heap, Hash, Isam, View, Index}
use Rattle.calculus.specs.IsDatabase.{IsDatabase, keys_stand, valid_structure}
use Rattle.calculus.specs.Lists.{is_any}
use Rattle.calculus.specs.Keys.{same_key}
use Rattle.calculus.specs.Structures.{is_keyed, is_structure}
use Rattle.disk_model.specs.Disk.{Image}
use Rattle.disk_model.specs.declared.disk.Addr.{Addr}
use Rattle.am_traits.specs.Causes.{IsAtFault}
use Rattle.calculus.specs.declared.schema.RelFile.{RelFile}
use Rattle.page_chain.specs.Pages.{pages_of}
use Rattle.plain_base.specs.Shown.{database_of}
use Rattle.stored_database.specs.Catalogue.{Catalogue, IsCatalogue, catalogue_in}
use Rattle.stored_database.specs.Names.{is_number32}
use Rattle.stored_database.specs.Printed.{Files, MayHave, printed}
use Rattle.stored_database.proofs.CatalogueRead.{catalogues_are_read}
use Rattle.stored_database.proofs.Members.{IsIn, in_first, in_map, of_tests, tests_of}
use Rattle.stored_database.proofs.Orders.{same_key_is}
use Rattle.stored_database.proofs.PrintedStands.{is_a_catalogue}
use Rattle.stored_database.proofs.PrintedTrees.{relation_under}
use Rattle.stored_database.proofs.Reading.{both}
use Rattle.stored_database.specs.After.{AreChanges, changed}
use Rattle.stored_database.specs.Moves.{destroyed, rows_of}
use Rattle.stored_database.specs.Renumbered.{DifferAt}
use Rattle.stored_database.proofs.Renumbered.{renumbers_rows, renumbers_the_catalogue}
use Rattle.catalog_moves.specs.Bases.{IndexBases}
use Rattle.catalog_moves.specs.Files.{files_of, files_after, with_file}
use Rattle.catalog_moves.specs.Moves.{HavePlaces}
use Rattle.catalog_moves.specs.declared.files.FileTable.{FileTable}
use Rattle.catalog_moves.proofs.OnBase.{entry_itself}
use Rattle.catalog_moves.proofs.Renumbered.{differ_at, file_here}
use Rattle.catalog_pages.specs.Ends.{AreEnds, NoCatalogue, Written}
use Rattle.catalog_laws.specs.Followed.{AreKept, Prints}
use Rattle.catalog_laws.specs.Placed.{Suits, is_used}
use Rattle.catalog_laws.proofs.Agreeing.{files_agree}
use Rattle.catalog_laws.proofs.FilesAfter.{may_have_after, may_have_read}
use Rattle.catalog_laws.proofs.Following.{catalogue_prints, short_after}
use Rattle.catalog.specs.Asked.{MayBeFile}
use Rattle.catalog.specs.Laid.{IsKept, IsPlaced, IsPrepared, coming_of, going_of}
use Rattle.catalog.specs.Spelling.{IsWritten, Spells, SpellsAfter, SpellsNone}
use Rattle.catalog.specs.declared.catalog.Catalog.{Catalog}
use Rattle.catalog.proofs.Places.{bases_after, kept_after}

-- what is placed by the catalogue alone suits the change, where the files are some that the database may have
suits_placed : (made : DbChange) (db : Db) (f : Files) (file used : ℕ) → IsLawful db made → MayHave db f → IsPlaced made f file used → Suits made f file used
unfolding IsPlaced Suits names_what_is_there
suits_placed (change.Rows rel remove add) db f file used lawful may placed =
    let r = relation_under db rel (both (is_relation db rel) _ lawful.names_are_there).0 in
    let its : is_used (f.used rel) =
    ap (λ (k : RelKey). nat_le 1 (f.used k) && is_number32 (f.used k)) (sym r.its)
    ∙ of_tests (λ (r : Relation). nat_le 1 (f.used r.info.key) && is_number32 (f.used r.info.key)) db.relations r.relation may.some_pages r.there in
    (placed.0, ap (λ (n : ℕ). nat_le 1 n && is_number32 n) placed.1 ∙ its)
suits_placed (change.Create info rows) db f file used lawful may placed = (placed.0, ap (λ (n : ℕ). nat_le 1 n && is_number32 n) placed.1)
suits_placed (change.Destroy rels) db f file used lawful may placed = tt
suits_placed (change.Modify rel to keys) db f file used lawful may placed = placed
suits_placed (change.Index base name keys) db f file used lawful may placed = placed
suits_placed (change.View info query) db f file used lawful may placed = placed
suits_placed (change.Permit rel permit) db f file used lawful may placed = tt
suits_placed (change.Rule rel rule) db f file used lawful may placed = tt
suits_placed (change.DropPermits rel numbers) db f file used lawful may placed = tt
suits_placed (change.DropRules rel numbers) db f file used lawful may placed = tt

-- where what is known isn't spelled, the pages hold no catalogue of it
pub none_spelled : (c : Catalog) (old : Option Image) (a : Addr) → IsAtFault old (NoCatalogue c.ends) a → IsAtFault old (SpellsNone c) a
none_spelled c old a none m is spells = none m is (printed (database_of c.plain) (files_of c.files)) spells.catalogue spells.ends

module _ (c : Catalog) (m : Image) (spells : Spells c m) where
  is_read : IsCatalogue (printed (database_of c.plain) (files_of c.files))
  is_read = catalogues_are_read (pages_of m) (printed (database_of c.plain) (files_of c.files)) spells.catalogue

  -- the files that are known are some that the database may have
  pub may_have_known : MayHave (database_of c.plain) (files_of c.files)
  may_have_known = may_have_read (database_of c.plain) (files_of c.files) spells.bases.are_files spells.bases.files_differ is_read

  module _ (made : DbChange) (file used : ℕ) (lawful : IsLawful (database_of c.plain) made) (placed : IsPlaced made (files_of c.files) file used) where
    suits : Suits made (files_of c.files) file used
    suits = suits_placed made (database_of c.plain) (files_of c.files) file used lawful may_have_known placed

    prints : (kept : Files) → AreKept made (database_of c.plain) (files_after made file used (files_of c.files)) kept → HavePlaces (coming_of made (files_of c.files) file used (database_of c.plain))
        → Prints (database_of c.plain) (database_of c.plain) made (files_of c.files) (files_after made file used (files_of c.files)) kept
    prints kept are places =
        catalogue_prints made (database_of c.plain) (database_of c.plain) (files_of c.files) (files_after made file used (files_of c.files)) kept
        (record { before = refl; after = refl; is = c.plain.is; lawful = lawful; leaves = lawful.leaves_a_database }) spells.bases.files_differ
        (files_agree made (database_of c.plain) (files_of c.files) file used lawful suits) are is_read places
        (may_have_after (database_of c.plain) (files_of c.files) file used may_have_known made lawful suits)

    -- the rows that go and come are a change of what is spelled
    spelled_prepared : (now : Catalog) → IsKept c now made file used → IsPrepared made (files_of c.files) file used (database_of c.plain) (printed (database_of c.plain) (files_of c.files))
    spelled_prepared now kept =
        let are = kept_after (database_of c.plain) c.files now.files file used c.plain.is spells.bases made lawful suits kept.places in
        record { changes = λ places. (prints (files_of now.files) are places).changes; stands = λ places. (prints (files_of now.files) are places).stands }

    -- and then the pages spell what is known
    pub change_spelled : {T E : Type 0} (r : Result T E) (now : Catalog) (old known : Option Image) → old ≡ Some m → OnOk r (HavePlaces (coming_of made (files_of c.files) file used (database_of c.plain)))
        → OnOk r ((n : Image) (cat : Catalogue) → old ≡ Some n → AreEnds n c.ends → catalogue_in (pages_of n) ≡ Some cat → IndexBases c.files (database_of c.plain) → IsPrepared made (files_of c.files) file used (database_of c.plain) cat
        → Written n known now.ends (changed (going_of made (files_of c.files) file used (database_of c.plain)) (coming_of made (files_of c.files) file used (database_of c.plain)) cat))
        → OnOk r (IsKept c now made file used) → OnOk r (SpellsAfter now m known)
    change_spelled (Err e) now old known is places writes kept = tt
    change_spelled (Ok x) now old known is places writes kept =
        let written = writes m (printed (database_of c.plain) (files_of c.files)) is spells.ends spells.catalogue spells.bases (spelled_prepared now kept) in
        let its = prints (files_of now.files) (kept_after (database_of c.plain) c.files now.files file used c.plain.is spells.bases made lawful suits kept.places) places in
        record {
          image = written.image;
          still_known = written.still_known;
          spells = record {
            catalogue = written.holds ∙ ap Some (its.is ∙ ap (λ (d : Db). printed d (files_of now.files)) (sym kept.plain));
            ends = written.ends_there;
            bases = subst (IndexBases now.files) (sym kept.plain)
                (bases_after (database_of c.plain) c.files now.files file used c.plain.is spells.bases made lawful suits kept.places its.may.are_files its.may.files_differ);
          };
          others = written.others;
        }

-- a change that was kept where it was placed was written
pub was_written : {T E : Type 0} (r : Result T E) (c now : Catalog) (made : DbChange) (file used : ℕ) → IsPlaced made (files_of c.files) file used → OnOk r (IsKept c now made file used) → OnOk r (IsWritten c now made)
was_written (Ok x) c now made file used placed kept = record { file = file; used = used; placed = placed; plain = kept.plain; loaded = kept.loaded; places = kept.places }
was_written (Err e) c now made file used placed kept = tt

-- ---- another file

-- a relation under a key, by what is known of what stands there
relation_info : (db : Db) (r : Relation) (key : RelKey) (info : RelInfo) → IsDatabase db → IsIn r db.relations → same_key r.info.key key ≡ true → entry_at db key ≡ Some info → r.info ≡ info
relation_info db r key info is at same there =
    same_Some r.info info
    (sym (entry_itself db is r.info (in_first (map (λ (r : Relation). r.info) db.relations) _ r.info (in_map (λ (r : Relation). r.info) db.relations r at)))
    ∙ ap (entry_at db) (same_key_is r.info.key key same) ∙ there)

-- what stands as a base relation has its structure
relation_structure : (info : RelInfo) → valid_structure info ≡ true → is_structure info.spec ≡ true
relation_structure info h = go info.spec h
  where
    go : (s : Spec) → (elim (is_keyed s) as (λ (b : Bool). Bool) [ true ↦ is_any info.keys && keys_stand info.attrs info.keys | false ↦ is_structure s && not (is_any info.keys) ]) ≡ true → is_structure s ≡ true
    go Heap h = refl
    go Hash h = refl
    go Isam h = refl
    go View h = cc h
    go Index h = cc h

module _ (c : Catalog) (m : Image) (spells : Spells c m) (key : RelKey) (its : RelFile) (may : MayBeFile (database_of c.plain) (files_of c.files) key its) (now : FileTable)
    (said : files_of now ≡ with_file key its.file its.used (files_of c.files)) (bases : IndexBases now (database_of c.plain)) where
  there : is_there (database_of c.plain) key ≡ true
  there = ap is_some may.there

  differ : DifferAt key (files_of c.files) (files_of now)
  differ = subst (DifferAt key (files_of c.files)) (sym said) (differ_at key its.file its.used (files_of c.files))

  -- each relation has a page by the new files
  used_then : (r : Relation) → IsIn r (database_of c.plain).relations → is_used ((files_of now).used r.info.key)
  used_then r at = go (same_key r.info.key key) refl
    where
      go : (b : Bool) → same_key r.info.key key ≡ b → is_used ((files_of now).used r.info.key)
      go true same =
          let info : r.info ≡ may.info = relation_info (database_of c.plain) r key may.info c.plain.is at same may.there in
          let structure : is_structure may.info.spec ≡ true = ap (λ (i : RelInfo). is_structure i.spec) (sym info) ∙ relation_structure r.info (of_tests (λ (r : Relation). valid_structure r.info) (database_of c.plain).relations r c.plain.is.structures_stand at) in
          ap (λ (f : Files). nat_le 1 (f.used r.info.key) && is_number32 (f.used r.info.key)) said
          ∙ ap (λ (n : ℕ). nat_le 1 n && is_number32 n) (file_here key its.file its.used (files_of c.files) r.info.key same).1
          ∙ may.some structure
      go false other =
          ap (λ (n : ℕ). nat_le 1 n && is_number32 n) (differ.used r.info.key other)
          ∙ of_tests (λ (r : Relation). nat_le 1 ((files_of c.files).used r.info.key) && is_number32 ((files_of c.files).used r.info.key)) (database_of c.plain).relations r (may_have_known c m spells).some_pages at

  may_then : MayHave (database_of c.plain) (files_of now)
  may_then = record {
    are_files = bases.are_files;
    files_differ = bases.files_differ;
    some_pages = tests_of (λ (r : Relation). nat_le 1 ((files_of now).used r.info.key) && is_number32 ((files_of now).used r.info.key)) (database_of c.plain).relations used_then;
  }

  going_now : Catalogue
  going_now = rows_of (files_of c.files) (destroyed (key ∷ []) (database_of c.plain))

  coming_now : Catalogue
  coming_now = rows_of (files_of now) (destroyed (key ∷ []) (database_of c.plain))

  renumbers : printed (database_of c.plain) (files_of now) ≡ changed going_now coming_now (printed (database_of c.plain) (files_of c.files))
  unfolding going_now coming_now
  renumbers = renumbers_the_catalogue key (database_of c.plain) (files_of c.files) (files_of now) c.plain.is spells.bases.files_differ bases.files_differ differ

  pub set_changes : AreChanges (rows_of (files_of c.files) (destroyed (key ∷ []) (database_of c.plain))) (rows_of (files_of now) (destroyed (key ∷ []) (database_of c.plain)))
      (printed (database_of c.plain) (files_of c.files))
  set_changes = renumbers_rows key (database_of c.plain) (files_of c.files) (files_of now) c.plain.is spells.bases.files_differ bases.files_differ differ

  pub set_stands : HavePlaces (rows_of (files_of now) (destroyed (key ∷ []) (database_of c.plain)))
      → IsCatalogue (changed (rows_of (files_of c.files) (destroyed (key ∷ []) (database_of c.plain))) (rows_of (files_of now) (destroyed (key ∷ []) (database_of c.plain)))
      (printed (database_of c.plain) (files_of c.files)))
  unfolding going_now coming_now
  set_stands places =
      subst IsCatalogue renumbers
      (is_a_catalogue (files_of now) (database_of c.plain) c.plain.is may_then
      (short_after going_now coming_now (printed (database_of c.plain) (files_of c.files)) (files_of now) (database_of c.plain) (record { files_differ = bases.files_differ; is = c.plain.is }) renumbers
      (is_read c m spells).are_parts places))

  -- and then the pages spell what is known
  pub set_spelled : (after : Catalog) (known : Option Image) → database_of after.plain ≡ database_of c.plain → after.files ≡ now
      → Written m known after.ends (changed (rows_of (files_of c.files) (destroyed (key ∷ []) (database_of c.plain))) (rows_of (files_of now) (destroyed (key ∷ []) (database_of c.plain)))
      (printed (database_of c.plain) (files_of c.files)))
      → SpellsAfter after m known
  unfolding going_now coming_now
  set_spelled after known same files written = record {
    image = written.image;
    still_known = written.still_known;
    spells = record {
      catalogue = written.holds ∙ ap Some (sym renumbers ∙ (λ i. printed (sym same i) (files_of (sym files i))));
      ends = written.ends_there;
      bases = (λ (b : IndexBases now (database_of c.plain)). subst (λ (t : FileTable). IndexBases t (database_of after.plain)) (sym files) (subst (IndexBases now) (sym same) b)) bases;
    };
    others = written.others;
  }
