-- What lies on pages that denote a database is known of it.
use Rattle.std.proofs.Common.{◌≡◌, refl, sym, ap, subst, ◌∙◌, inl, inr, ℕ, ◌&&◌, nat_le, Bool, true, false, List, [], ◌∷◌, ◌++◌, map, Option, Some}
use Rattle.std.specs.Prelude.{nat_eq}
use Rattle.std.specs.List.{AllByRecursion, list_all}
use Rattle.std.proofs.lemmas.Option.{same_Some, none-some}
use Rattle.calculus.specs.declared.query.RelKey.{RelKey}
use Rattle.calculus.specs.declared.schema.RelInfo.{RelInfo}
use Rattle.calculus.specs.declared.value.Domain.{Domain}
use Rattle.calculus.specs.Database.{Db, Relation, entries}
use Rattle.calculus.specs.IsDatabase.{IsDatabase}
use Rattle.calculus.specs.Lists.{differ_by}
use Rattle.calculus.specs.Rows.{Row}
use Rattle.calculus.specs.Schema.{bare, schema_of}
use Rattle.disk_model.specs.Disk.{Image}
use Rattle.page_chain.specs.Lists.{◌>>=◌, each}
use Rattle.page_chain.specs.Pages.{Pages, pages_of}
use Rattle.page_chain.specs.Rows.{placed_on, reader, set_on}
use Rattle.page_chain.specs.Chains.{whole_chain, chain}
use Rattle.plain_base.specs.Shown.{database_of}
use Rattle.catalog_read.specs.Parts.{index_owners_agree, whole}
use Rattle.stored_database.specs.Catalogue.{Catalogue, catalogue_in}
use Rattle.stored_database.specs.Entries.{Entry, entry_cmp}
use Rattle.stored_database.specs.Names.{is_number32}
use Rattle.stored_database.specs.Printed.{Files, HasFiles, entries_for, index_entry, is_file, printed, relation_entry, rows_in, view_entry}
use Rattle.stored_database.specs.Spelled.{domain_of, spelled}
use Rattle.stored_database.specs.Denoting.{denoted}
use Rattle.calculus.specs.Structures.{is_structure}
use Rattle.stored_database.proofs.Exactly.{pages_stand_exactly}
use Rattle.stored_database.proofs.Members.{IsIn, all_of, filter_in, in_either, map_in, of_all, of_tests, tests_of}
use Rattle.stored_database.proofs.PrintedLaw.{what_is_printed_is_read}
use Rattle.stored_database.proofs.Sets.{in_order_in}
use Rattle.stored_database.proofs.SpelledParts.{OfRelation, relation_parts, spells}
use Rattle.stored_database.proofs.WhatStands.{what_is_denoted_is_a_database}
use Rattle.stored_database.proofs.Staying.{relation_is}
use Rattle.catalog_moves.proofs.KeptBases.{same_bases}
use Rattle.catalog_moves.specs.Files.{files_of, is_in}
use Rattle.catalog_read.proofs.SpellsSchema.{spells_its_schema}
use Rattle.catalog_laws.proofs.Schemas.{same_entries, same_printed}
use Rattle.catalog_laws.specs.Loaded.{loaded_part}
use Rattle.catalog_laws.proofs.Part.{part, part_known, part_unknown}
use Rattle.catalog.specs.Knows.{Knows}
use Rattle.catalog.specs.Lies.{LiesOn}
use Rattle.catalog.specs.declared.catalog.Catalog.{Catalog}
use Rattle.catalog.proofs.Known.{catalogue_stays, ends_stay}

-- ---- lists of relations

-- what a map leaves as it is, item by item
pub left_each : {A : Type 0} (g : A → A) (xs : List A) → xs ≡ map g xs → AllByRecursion (λ x. x ≡ g x) xs
left_each g [] e = tt
left_each g (x ∷ xs) e = (cc e, left_each g xs (cc e))

-- the rows that a relation has by its attributes and its key
abbrev rows_for : (ℕ → Pages) → Files → RelInfo → Option (List Row)
rows_for files f info = each domain_of info.attrs >>= (λ (domains : List Domain). set_on (reader domains) (f.used info.key) (files (f.file info.key)))

rows_by_info : (files : ℕ → Pages) (f : Files) (r : Relation) → rows_in files f r ≡ rows_for files f r.info
unfolding rows_in
rows_by_info files f r = refl

-- relations of one schema are the same where their rows are read of the same pages, but for rows that aren't known
module _ (has : RelKey → Bool) (files : ℕ → Pages) (f : Files) where
  -- A relation as a part has it, its rows on the pages where they are known.
  abbrev Ours : Relation → Type 0
  Ours x = (x ≡ part has x) × (has x.info.key ≡ true → rows_in files f x ≡ Some x.rows)

  one_same : (x y : Relation) → bare x ≡ bare y → Ours x → rows_in files f y ≡ Some y.rows → x ≡ part has y
  one_same x y same ours theirs = go (has x.info.key) refl
    where
      info : x.info ≡ y.info
      info = ap (λ (r : Relation). r.info) same

      go : (b : Bool) → has x.info.key ≡ b → x ≡ part has y
      go true e =
          let rows : x.rows ≡ y.rows =
          same_Some x.rows y.rows (sym (ours.1 e) ∙ rows_by_info files f x ∙ ap (rows_for files f) info ∙ sym (rows_by_info files f y) ∙ theirs) in
          (λ i. record { info = info i; rows = rows i }) ∙ sym (part_known has y (ap (λ (i : RelInfo). has i.key) (sym info) ∙ e))
      go false e = ours.0 ∙ part_unknown has x e ∙ same ∙ sym (part_unknown has y (ap (λ (i : RelInfo). has i.key) (sym info) ∙ e))

  pub same_parts : (xs ys : List Relation) → map bare xs ≡ map bare ys → AllByRecursion Ours xs → AllByRecursion (λ y. rows_in files f y ≡ Some y.rows) ys → xs ≡ map (part has) ys
  same_parts [] [] same ours theirs = refl
  same_parts [] (y ∷ ys) same ours theirs = absurd (cc same)
  same_parts (x ∷ xs) [] same ours theirs = absurd (cc same)
  same_parts (x ∷ xs) (y ∷ ys) same ours theirs = λ i. one_same x y (cc same) ours.0 theirs.0 i ∷ same_parts xs ys (cc same) ours.1 theirs.1 i

-- ---- no rows lie on no pages

none_on : (read : List ℕ → Option Row) (used : ℕ) (pages : Pages) (rows : List Row) → used ≡ 0 → set_on read used pages ≡ Some rows → ⊥
unfolding set_on placed_on whole_chain chain
none_on read used pages rows none e = none-some rows (sym (ap (λ (n : ℕ). set_on read n pages) none) ∙ e)

-- ---- the files of what stands there

module _ (c : Catalog) (m : Image) (db : Db) (lies : LiesOn c m) (stands : denoted m ≡ Some db) (owners : index_owners_agree db ≡ true) (named : (database_of c.plain).dba ≡ db.dba) where
  is : IsDatabase db
  is = what_is_denoted_is_a_database m db stands

  abbrev cat : Catalogue
  cat = printed (database_of c.plain) (files_of c.files)

  there : catalogue_in (pages_of m) ≡ Some cat
  there = catalogue_stays lies.over m (λ b low. sym (lies.first b low)) cat lies.knows.catalogue

  ours : spelled (database_of c.plain).dba (pages_of lies.over) cat ≡ Some (database_of c.plain)
  ours = what_is_printed_is_read (pages_of lies.over) (files_of c.files) (database_of c.plain) c.plain.is lies.knows.has

  theirs : spelled db.dba (pages_of m) cat ≡ Some db
  theirs =
      let h = (pages_stand_exactly m db is).0 stands in
      ap (spelled db.dba (pages_of m)) (same_Some cat (printed db h.files) (sym there ∙ h.catalogue)) ∙ what_is_printed_is_read (pages_of m) h.files db is h.has

  schema : schema_of (database_of c.plain) ≡ schema_of db
  schema =
      let a = spells_its_schema (database_of c.plain).dba (pages_of lies.over) cat (database_of c.plain) ours in
      let b = spells_its_schema db.dba (pages_of m) cat db theirs in
      same_Some (schema_of (database_of c.plain)) (schema_of db) (sym a.make ∙ (λ i. whole (named i) (same_Some a.parts b.parts (sym a.are ∙ b.are) i)) ∙ b.make)

  -- What is to be known of a relation of it: how many pages it has, and its rows on them.
  record OnFiles (r : Relation) : Type 0 where
    pages : (nat_le 1 ((files_of c.files).used r.info.key) && is_number32 ((files_of c.files).used r.info.key)) ≡ true
    rows : rows_in (pages_of m) (files_of c.files) r ≡ Some r.rows

  -- by its entry, which is one of what is known
  on_files : (r : Relation) (e : Entry) → OfRelation (pages_of m) cat e r → IsIn e cat.entries → OnFiles r
  unfolding rows_in printed entries_for
  on_files r e its at =
      elim (in_either (map (relation_entry (files_of c.files)) (database_of c.plain).relations) (map (view_entry (files_of c.files)) (database_of c.plain).views ++ map (index_entry (files_of c.files)) (database_of c.plain).indexes) e (in_order_in entry_cmp _ e at)) [
        | inl k ↦ of_known (map_in (relation_entry (files_of c.files)) (database_of c.plain).relations e k)
        | inr o ↦ elim (in_either (map (view_entry (files_of c.files)) (database_of c.plain).views) (map (index_entry (files_of c.files)) (database_of c.plain).indexes) e o) [
          | inl v ↦ absurd (none_on (reader its.domains) e.used (pages_of m e.file) r.rows (ap (λ (e : Entry). e.used) (map_in (view_entry (files_of c.files)) (database_of c.plain).views e v).2) its.rows)
          | inr x ↦ absurd (none_on (reader its.domains) e.used (pages_of m e.file) r.rows (ap (λ (e : Entry). e.used) (map_in (index_entry (files_of c.files)) (database_of c.plain).indexes e x).2) its.rows)
        ]
      ]
    where
      of_known : (p : Relation) × IsIn p (database_of c.plain).relations × (e ≡ relation_entry (files_of c.files) p) → OnFiles r
      of_known k =
          let key : r.info.key ≡ k.0.info.key = ap (λ (i : RelInfo). i.key) its.info ∙ ap (λ (e : Entry). e.key) k.2 in
          let number : e.file ≡ (files_of c.files).file r.info.key = ap (λ (e : Entry). e.file) k.2 ∙ ap (files_of c.files).file (sym key) in
          let many : e.used ≡ (files_of c.files).used r.info.key = ap (λ (e : Entry). e.used) k.2 ∙ ap (files_of c.files).used (sym key) in
          record {
            pages = ap (λ (k : RelKey). nat_le 1 ((files_of c.files).used k) && is_number32 ((files_of c.files).used k)) key
                ∙ of_tests (λ (r : Relation). nat_le 1 ((files_of c.files).used r.info.key) && is_number32 ((files_of c.files).used r.info.key)) (database_of c.plain).relations k.0 lies.knows.has.some_pages k.1;
            rows = ap (λ ds. ds >>= (λ (domains : List Domain). set_on (reader domains) ((files_of c.files).used r.info.key) (pages_of m ((files_of c.files).file r.info.key)))) its.domains_are
                ∙ sym (λ i. set_on (reader its.domains) (many i) (pages_of m (number i))) ∙ its.rows;
          }

  each_on : (r : Relation) → IsIn r db.relations → OnFiles r
  each_on r at =
      let o = (spells db.dba (pages_of m) cat db theirs).relations.from r at in
      on_files r o.0 (relation_parts (pages_of m) cat o.0 r o.2) (filter_in (λ e. is_structure e.spec) cat.entries o.0 o.1).0

  has : HasFiles db (pages_of m) (files_of c.files)
  has =
      let same : entries (database_of c.plain) ≡ entries db = same_entries (database_of c.plain) db schema in
      record {
        are_files = subst (λ (es : List RelInfo). list_all (λ i. is_file ((files_of c.files).file i.key)) es ≡ true) same lies.knows.has.are_files;
        files_differ = subst (λ (es : List RelInfo). differ_by nat_eq (map (λ i. (files_of c.files).file i.key) es) ≡ true) same lies.knows.has.files_differ;
        some_pages = tests_of (λ (r : Relation). nat_le 1 ((files_of c.files).used r.info.key) && is_number32 ((files_of c.files).used r.info.key)) db.relations (λ r at. (each_on r at).pages);
        rows = all_of (λ (r : Relation). rows_in (pages_of m) (files_of c.files) r ≡ Some r.rows) db.relations (λ r at. (each_on r at).rows);
      }

  -- ---- what is known in memory

  relations_same : (database_of c.plain).relations ≡ map (part (is_in c.loaded)) db.relations
  unfolding schema_of loaded_part rows_in
  relations_same =
      same_parts (is_in c.loaded) (pages_of m) (files_of c.files) (database_of c.plain).relations db.relations (ap (λ (d : Db). d.relations) schema)
      (all_of (Ours (is_in c.loaded) (pages_of m) (files_of c.files)) (database_of c.plain).relations (λ r at. (
        of_all (λ (r : Relation). r ≡ part (is_in c.loaded) r) (database_of c.plain).relations r (left_each (part (is_in c.loaded)) (database_of c.plain).relations (ap (λ (d : Db). d.relations) lies.knows.plain)) at,
        (λ known. (λ i. each domain_of r.info.attrs >>= (λ (domains : List Domain). set_on (reader domains) ((files_of c.files).used r.info.key) (sym (lies.read r.info.key (relation_is (database_of c.plain) r at) known) i)))
            ∙ of_all (λ (r : Relation). rows_in (pages_of lies.over) (files_of c.files) r ≡ Some r.rows) (database_of c.plain).relations r lies.knows.has.rows at),
      )))
      has.rows

  plain : database_of c.plain ≡ loaded_part (is_in c.loaded) db
  unfolding schema_of loaded_part
  plain = λ i. record {
    dba = named i;
    relations = relations_same i;
    indexes = ap (λ (d : Db). d.indexes) schema i;
    views = ap (λ (d : Db). d.views) schema i;
    rules = ap (λ (d : Db). d.rules) schema i;
    permits = ap (λ (d : Db). d.permits) schema i;
  }

  infos_same : map (λ (r : Relation). r.info) db.relations ≡ map (λ (r : Relation). r.info) (database_of c.plain).relations
  unfolding schema_of
  infos_same = sym (of_bare db.relations) ∙ ap (map (λ (r : Relation). r.info)) (sym (ap (λ (d : Db). d.relations) schema)) ∙ of_bare (database_of c.plain).relations
    where
      of_bare : (rs : List Relation) → map (λ (r : Relation). r.info) (map bare rs) ≡ map (λ (r : Relation). r.info) rs
      of_bare [] = refl
      of_bare (r ∷ rs) = ap (λ l. r.info ∷ l) (of_bare rs)

  -- so it is known of the database
  pub known_of : Knows c m db
  unfolding schema_of
  known_of = record {
    plain = plain;
    catalogue = there ∙ ap Some (same_printed (database_of c.plain) db (files_of c.files) schema);
    has = has;
    ends = ends_stay lies.over m (λ b low. sym (lies.first b low)) c.ends lies.knows.ends;
    owners = owners;
    bases = same_bases c.files (database_of c.plain) db infos_same (sym (ap (λ (d : Db). d.views) schema)) (sym (ap (λ (d : Db). d.indexes) schema)) lies.knows.bases;
  }
