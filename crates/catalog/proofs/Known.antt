-- What is known when a change was applied.
use Rattle.std.proofs.Common.{◌≡◌, refl, sym, ap, subst, ◌∙◌, inl, inr, ℕ, ◌<◌, ◌≤◌, nat_le, bytes_eq, not, ◌||◌, Bool, true, List, [], ◌∷◌, map, Option, Some, arith}
use Rattle.std.proofs.lemmas.Bool.Decides.{nat_tests}
use Rattle.std.proofs.lemmas.Slice.Eq.{bytes_eq-Decides}
use Rattle.calculus.specs.declared.change.DbChange.{DbChange}
use Rattle.calculus.specs.declared.query.RelKey.{RelKey}
use Rattle.calculus.specs.declared.change.DbChange.TheVariants as change
use Rattle.calculus.specs.declared.schema.RelInfo.{RelInfo}
use Rattle.calculus.specs.Change.{IsLawful, laid, index_info}
use Rattle.calculus.specs.Database.{Db, Relation, Index, entries}
use Rattle.calculus.specs.IsDatabase.{IsDatabase}
use Rattle.calculus.specs.Keys.{has_key, same_key, key_cmp}
use Rattle.calculus.specs.Schema.{schema_of}
use Rattle.disk_model.specs.Disk.{Image}
use Rattle.disk_model.specs.declared.disk.Addr.{Addr}
use Rattle.page_chain.specs.Lists.{◌>>=◌, each}
use Rattle.page_chain.specs.Pages.{page_at, pages_of}
use Rattle.page_chain.specs.Rows.{set_on, reader}
use Rattle.plain_base.specs.Shown.{database_of}
use Rattle.catalog_read.specs.Parts.{index_owners_agree}
use Rattle.stored_database.specs.Catalogue.{Catalogue, catalogue_in, listed}
use Rattle.stored_database.specs.Columns.{column_cmp, column_of}
use Rattle.stored_database.specs.Entries.{entry_cmp, entry_of}
use Rattle.stored_database.specs.Parts.{part_cmp, part_of}
use Rattle.stored_database.specs.Names.{is_number32}
use Rattle.stored_database.specs.Printed.{Files, HasFiles, is_file, printed, rows_in}
use Rattle.stored_database.specs.Spelled.{domain_of}
use Rattle.stored_database.proofs.CatalogueRead.{catalogues_are_read}
use Rattle.stored_database.proofs.Members.{IsIn, of_all, all_of, of_tests, tests_of, in_first, in_map, filter_in}
use Rattle.stored_database.proofs.Reading.{both}
use Rattle.stored_database.proofs.Sets.{insert_in}
use Rattle.stored_database.specs.After.{changed}
use Rattle.catalog_moves.specs.Files.{files_of, files_after, is_in}
use Rattle.catalog_moves.specs.Bases.{IndexBases}
use Rattle.catalog_moves.specs.Moves.{HavePlaces}
use Rattle.catalog_moves.proofs.KeptBases.{same_bases}
use Rattle.catalog_pages.specs.Ends.{AreEnds, EndsAt, SameBesides, Written}
use Rattle.catalog_pages.specs.declared.writing.Ends.{Ends}
use Rattle.catalog_laws.specs.Followed.{AreKept, SameSchemas, Follows}
use Rattle.catalog_laws.proofs.Agreeing.{files_agree}
use Rattle.catalog_laws.proofs.Following.{catalogue_follows}
use Rattle.catalog_laws.proofs.Standing.{files_stand, first_files_stay}
use Rattle.catalog_laws.specs.Loaded.{loaded_part, knows_rows, known_after}
use Rattle.catalog_laws.proofs.Changes.{takes_changes}
use Rattle.catalog_laws.proofs.Part.{has_schema, part, part_info}
use Rattle.catalog_laws.proofs.Stands.{part_is_database}
use Rattle.catalog.specs.Knows.{Knows, KnowsAfter}
use Rattle.catalog.specs.Laid.{MayTake, HasMade, IsPrepared, IsKept, SeesTheSame, going_of, coming_of}
use Rattle.catalog.specs.declared.catalog.Catalog.{Catalog}
use Rattle.catalog.proofs.Places.{bases_after, kept_after}

-- ---- each index has the owner of its relation still

pub owners_after : (made : DbChange) (db : Db) → index_owners_agree db ≡ true → index_owners_agree (laid db made) ≡ true
unfolding index_owners_agree laid
owners_after (change.Rows rel remove add) db e = e
owners_after (change.Create info rows) db e = e
owners_after (change.Destroy rels) db e = tests_of (λ (x : Index). bytes_eq x.info.key.owner x.base.owner) (laid db (change.Destroy rels)).indexes (λ x at.
    of_tests (λ (x : Index). bytes_eq x.info.key.owner x.base.owner) db.indexes x e (filter_in (λ (x : Index). not (has_key rels x.info.key || has_key rels x.base)) db.indexes x at).0)
owners_after (change.Modify rel to keys) db e = tests_of (λ (x : Index). bytes_eq x.info.key.owner x.base.owner) (laid db (change.Modify rel to keys)).indexes (λ x at.
    of_tests (λ (x : Index). bytes_eq x.info.key.owner x.base.owner) db.indexes x e (filter_in (λ (x : Index). not (same_key x.base rel)) db.indexes x at).0)
owners_after (change.Index base name keys) db e = tests_of (λ (x : Index). bytes_eq x.info.key.owner x.base.owner) (laid db (change.Index base name keys)).indexes (λ x at.
    elim (insert_in (λ (a b : Index). key_cmp a.info.key b.info.key) (record { info = index_info base name keys; base = base }) db.indexes x at) [
      | inl k ↦ ap (λ (y : Index). bytes_eq y.info.key.owner y.base.owner) k ∙ (bytes_eq-Decides base.owner base.owner).1 refl
      | inr k ↦ of_tests (λ (x : Index). bytes_eq x.info.key.owner x.base.owner) db.indexes x e k
    ])
owners_after (change.View info query) db e = e
owners_after (change.Permit rel permit) db e = e
owners_after (change.Rule rel rule) db e = e
owners_after (change.DropPermits rel numbers) db e = e
owners_after (change.DropRules rel numbers) db e = e

-- ---- pages of other files

low : (n m : ℕ) → n < 16 → nat_le 16 m ≡ true → m ≡ n → ⊥
low n m less high e = let le : 16 ≤ m = grind (arith, nat_tests) in omega (arith, le, less, e)

-- a database has its files where only the pages of the catalogues changed
pub has_besides : (db : Db) (f : Files) (m n : Image) → SameBesides m n → HasFiles db (pages_of m) f → HasFiles db (pages_of n) f
unfolding rows_in
has_besides db f m n same has = record {
  are_files = has.are_files;
  files_differ = has.files_differ;
  some_pages = has.some_pages;
  rows = all_of (λ (r : Relation). rows_in (pages_of n) f r ≡ Some r.rows) db.relations (λ r at.
      (λ i. each domain_of r.info.attrs >>= (λ domains. set_on (reader domains) (f.used r.info.key) (pages r at i)))
      ∙ of_all (λ (r : Relation). rows_in (pages_of m) f r ≡ Some r.rows) db.relations r has.rows at);
}
  where
    high : (r : Relation) → IsIn r db.relations → nat_le 16 (f.file r.info.key) ≡ true
    high r at =
        (both (nat_le 16 (f.file r.info.key)) (is_number32 (f.file r.info.key))
        (of_tests (λ (i : RelInfo). is_file (f.file i.key)) (entries db) r.info has.are_files (in_first (map (λ (r : Relation). r.info) db.relations) _ r.info (in_map (λ (r : Relation). r.info) db.relations r at)))).0

    pages : (r : Relation) → IsIn r db.relations → pages_of n (f.file r.info.key) ≡ pages_of m (f.file r.info.key)
    pages r at = λ i page. same (page_at (f.file r.info.key) page) (low 5 (f.file r.info.key) (omega arith) (high r at)) (low 6 (f.file r.info.key) (omega arith) (high r at)) (low 7 (f.file r.info.key) (omega arith) (high r at)) i

module _ (m n : Image) (same : (b : Addr) → b.file < 16 → n b ≡ m b) where
  low_pages : (file : ℕ) → file < 16 → pages_of n file ≡ pages_of m file
  low_pages file less = λ i page. same (page_at file page) less i

  pub ends_stay : (ends : Ends) → AreEnds m ends → AreEnds n ends
  ends_stay ends are = record {
    entries = subst (λ pages. EndsAt pages ends.entries) (sym (low_pages 5 (omega arith))) are.entries;
    columns = subst (λ pages. EndsAt pages ends.columns) (sym (low_pages 6 (omega arith))) are.columns;
    parts = subst (λ pages. EndsAt pages ends.parts) (sym (low_pages 7 (omega arith))) are.parts;
  }

  pub catalogue_stays : (cat : Catalogue) → catalogue_in (pages_of m) ≡ Some cat → catalogue_in (pages_of n) ≡ Some cat
  unfolding catalogue_in
  catalogue_stays cat e = (λ i. (listed entry_of entry_cmp (low_pages 5 (omega arith) i)) >>= (λ entries. (listed column_of column_cmp (low_pages 6 (omega arith) i)) >>= (λ columns. (listed part_of part_cmp (low_pages 7 (omega arith) i))
      >>= (λ parts. Some (record { entries = entries; columns = columns; parts = parts }))))) ∙ e

-- ---- the table of files

infos_of : (has : RelKey → Bool) (rs : List Relation) → map (λ (r : Relation). r.info) (map (part has) rs) ≡ map (λ (r : Relation). r.info) rs
infos_of has [] = refl
infos_of has (r ∷ rs) = λ i. part_info has r i ∷ infos_of has rs i

-- the table is one of what is known in memory, too
pub part_bases : (c : Catalog) (m : Image) (db : Db) → Knows c m db → IndexBases c.files (database_of c.plain)
unfolding loaded_part
part_bases c m db knows = subst (IndexBases c.files) (sym knows.plain) (same_bases c.files db (loaded_part (is_in c.loaded) db) (infos_of (is_in c.loaded) db.relations) refl refl knows.bases)

-- ---- a change

-- files after a change may be kept as they are
itself : (made : DbChange) (db : Db) (after : Files) → AreKept made db after after
unfolding AreKept
itself (change.Rows rel remove add) db after = refl
itself (change.Create info rows) db after = refl
itself (change.Destroy rels) db after = record { file = λ key at. refl; used = λ key at. refl }
itself (change.Modify rel to keys) db after = record { file = λ key at. refl; used = λ key at. refl }
itself (change.Index base name keys) db after = refl
itself (change.View info query) db after = refl
itself (change.Permit rel permit) db after = refl
itself (change.Rule rel rule) db after = refl
itself (change.DropPermits rel numbers) db after = refl
itself (change.DropRules rel numbers) db after = refl

pub sees_itself : (made : DbChange) (f : Files) (m : Image) → SeesTheSame made f m m
unfolding SeesTheSame
sees_itself (change.Rows rel remove add) f m = refl
sees_itself (change.Create info rows) f m = tt
sees_itself (change.Destroy rels) f m = tt
sees_itself (change.Modify rel to keys) f m = tt
sees_itself (change.Index base name keys) f m = tt
sees_itself (change.View info query) f m = tt
sees_itself (change.Permit rel permit) f m = tt
sees_itself (change.Rule rel rule) f m = tt
sees_itself (change.DropPermits rel numbers) f m = tt
sees_itself (change.DropRules rel numbers) f m = tt

module _ (c : Catalog) (m : Image) (db : Db) (made : DbChange) (is : IsDatabase db) (knows : Knows c m db) (lawful : IsLawful db made) where
  pub may_take : MayTake (database_of c.plain) db (files_of c.files) made m
  may_take = record { is = is; over = m; has = knows.has; sees = sees_itself made (files_of c.files) m; schema = ap schema_of knows.plain ∙ has_schema (is_in c.loaded) db; lawful = lawful }

  module _ (file used : ℕ) (known : Option Image) (its : HasMade made db (files_of c.files) file used m known) where
    first_stay : (b : Addr) → b.file < 16 → its.image b ≡ m b
    first_stay = first_files_stay made db (files_of c.files) file used m its.image lawful knows.has its.suits its.makes

    pub ends_there : AreEnds its.image c.ends
    ends_there = ends_stay m its.image first_stay c.ends knows.ends

    pub catalogue_there : catalogue_in (pages_of its.image) ≡ Some (printed db (files_of c.files))
    catalogue_there = catalogue_stays m its.image first_stay (printed db (files_of c.files)) knows.catalogue

  module _ (read : knows_rows made (is_in c.loaded) ≡ true) where
    same : SameSchemas db (database_of c.plain) made
    same = subst (λ p. SameSchemas db p made) (sym knows.plain) (record {
      before = has_schema (is_in c.loaded) db;
      after = ap schema_of (takes_changes.after (is_in c.loaded) db made is lawful read) ∙ has_schema (known_after made (is_in c.loaded)) (laid db made);
      is = part_is_database (is_in c.loaded) db is;
      lawful = takes_changes.lawful (is_in c.loaded) db made is lawful read;
      leaves = lawful.leaves_a_database;
    })

    pub part_lawful : IsLawful (database_of c.plain) made
    part_lawful = same.lawful

    module _ (file used : ℕ) (known : Option Image) (its : HasMade made db (files_of c.files) file used m known) where
      follows : (kept : Files) → AreKept made (database_of c.plain) (files_after made file used (files_of c.files)) kept → HavePlaces (coming_of made (files_of c.files) file used (database_of c.plain))
          → Follows db (database_of c.plain) made (files_of c.files) (files_after made file used (files_of c.files)) kept (pages_of its.image)
      follows kept are places =
          catalogue_follows made db (database_of c.plain) (files_of c.files) (files_after made file used (files_of c.files)) kept (pages_of its.image) same knows.has.files_differ
          (files_agree made (database_of c.plain) (files_of c.files) file used same.lawful its.suits) are
          (catalogues_are_read (pages_of m) (printed db (files_of c.files)) knows.catalogue) places
          (files_stand made db (files_of c.files) file used m its.image is lawful knows.has its.suits its.makes)

      pub prepared : IsPrepared made (files_of c.files) file used (database_of c.plain) (printed db (files_of c.files))
      prepared = record {
        changes = λ places. (follows (files_after made file used (files_of c.files)) (itself made (database_of c.plain) (files_after made file used (files_of c.files))) places).changes;
        stands = λ places. (follows (files_after made file used (files_of c.files)) (itself made (database_of c.plain) (files_after made file used (files_of c.files))) places).stands;
      }

      pub known_then : (now : Catalog) (known_now : Option Image) → IsKept c now made file used → HavePlaces (coming_of made (files_of c.files) file used (database_of c.plain))
          → Written its.image known_now now.ends (changed (going_of made (files_of c.files) file used (database_of c.plain)) (coming_of made (files_of c.files) file used (database_of c.plain)) (printed db (files_of c.files)))
          → KnowsAfter now m known_now db made
      known_then now known_now kept places written =
          let part = database_of c.plain in
          let its_catalogue = follows (files_of now.files) (kept_after part c.files now.files file used same.is (part_bases c m db knows) made same.lawful its.suits kept.places) places in
          record {
            image = written.image;
            still_known = written.still_known;
            knows = record {
              plain = kept.plain ∙ ap (λ (d : Db). laid d made) knows.plain ∙ takes_changes.after (is_in c.loaded) db made is lawful read ∙ sym (λ i. loaded_part (λ key. kept.loaded key i) (laid db made));
              catalogue = written.holds ∙ ap Some its_catalogue.is;
              has = has_besides (laid db made) (files_of now.files) its.image written.image written.others its_catalogue.has;
              ends = written.ends_there;
              owners = owners_after made db knows.owners;
              bases = bases_after db c.files now.files file used is knows.bases made lawful its.suits kept.places its_catalogue.has.are_files its_catalogue.has.files_differ;
            };
            head = λ b e. written.others b (λ k. omega (arith, e, k)) (λ k. omega (arith, e, k)) (λ k. omega (arith, e, k)) ∙ first_stay file used known its b (omega (arith, e));
          }
