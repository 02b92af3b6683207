-- What is read of the catalogues of a disk.
use Rattle.std.proofs.Common.{◌≡◌, refl, sym, ap, subst, ◌∙◌, inl, inr, ℕ, not, ◌||◌, Bool, true, false, List, [], ◌∷◌, ◌++◌, map, Option, Some, None, option_map, Result, Ok, Err}
use Rattle.std.specs.Prelude.{IfOk, IsTrue, is_some}
use Rattle.std.specs.List.{AllByRecursion, list_any}
use Rattle.std.specs.Option.{ForSome}
use Rattle.std.specs.Ordering.{is_eq, nat_cmp}
use Rattle.std.proofs.lemmas.Cmp.{nat_cmp_total, tied_itself}
use Rattle.std.specs.List.Sorted.{IsStrictlySortedBy}
use Rattle.std.specs.Cmp.{IsTotalOrder}
use Rattle.std.specs.declared.cmp.Ordering.{Ordering}
use Rattle.std.proofs.lemmas.Option.{same_Some}
use Rattle.calculus.specs.declared.query.RelKey.{RelKey}
use Rattle.calculus.specs.Database.{Db}
use Rattle.calculus.specs.IsDatabase.{IsDatabase}
use Rattle.calculus.specs.Schema.{schema_of, bare}
use Rattle.calculus.specs.Keys.{same_key}
use Rattle.calculus.specs.Lists.{differ_by}
use Rattle.memory.specs.declared.out_of_memory.OutOfMemory.{OutOfMemory}
use Rattle.disk_model.specs.Disk.{Image}
use Rattle.disk_model.specs.declared.disk.Addr.{Addr}
use Rattle.page_chain.specs.Chains.{chain, NoChain}
use Rattle.page_chain.specs.Found.{Found}
use Rattle.page_chain.specs.Lists.{◌>>=◌, each, once}
use Rattle.page_chain.specs.Lying.{lying, bytes_of}
use Rattle.page_chain.specs.Pages.{Pages, pages_of}
use Rattle.plain_base.specs.Shown.{database_of}
use Rattle.plain_base.specs.declared.db_plain.DbPlain.{DbPlain}
use Rattle.schema_laws.proofs.SchemaStands.{schema_is_database}
use Rattle.catalog_read.specs.declared.parts.SchemaParts.{SchemaParts}
use Rattle.catalog_read.specs.Parts.{index_owners_agree, parts_in, whole}
use Rattle.stored_database.specs.Catalogue.{Catalogue, IsCatalogue, catalogue_in, listed, most_pages}
use Rattle.stored_database.specs.Columns.{column_of, column_cmp, is_column}
use Rattle.stored_database.specs.Entries.{Entry, entry_of, entry_cmp, is_entry}
use Rattle.stored_database.specs.Parts.{part_of, part_cmp, is_part}
use Rattle.stored_database.specs.Printed.{Files, HasFiles, entries_for, entry_under, files_in, index_entry, printed, relation_entry, view_entry}
use Rattle.stored_database.specs.Spelled.{spelled}
use Rattle.stored_database.proofs.CatalogueRead.{catalogues_are_read}
use Rattle.stored_database.proofs.ColumnBytes.{columns_are_their_bytes}
use Rattle.stored_database.proofs.EntryBytes.{entries_are_their_bytes}
use Rattle.stored_database.proofs.Exactly.{pages_stand_exactly}
use Rattle.stored_database.proofs.FilesAgain.{what_is_read_is_printed}
use Rattle.stored_database.proofs.InOrder.{NoneEqual, sorted_apart}
use Rattle.stored_database.proofs.Members.{IsIn, all_of, in_either, map_in, read_of}
use Rattle.stored_database.proofs.Orders.{entry_total, column_total, part_total, same_key_is}
use Rattle.stored_database.proofs.PartBytes.{parts_are_their_bytes}
use Rattle.stored_database.proofs.PrintedLaw.{what_is_printed_is_read}
use Rattle.stored_database.proofs.Reading.{bind_some, together}
use Rattle.stored_database.proofs.Sets.{IsOnce, in_order_in, is_once, sorted_in_order}
use Rattle.stored_database.proofs.WhatStands.{what_is_denoted_is_a_database}
use Rattle.catalog_laws.specs.Loaded.{loaded_part}
use Rattle.catalog_moves.specs.Files.{files_of, is_in}
use Rattle.catalog_pages.specs.declared.writing.Ends.{Ends}
use Rattle.catalog_pages.specs.Ends.{AreEnds, EndsAt}
use Rattle.catalog_read.specs.Laws.{SpellsItsSchema}
use Rattle.catalog_read.specs.Read.{catalogue_of, catalogue_shown, parts_of}
use Rattle.catalog_read.specs.declared.rows.CatalogueRows.{CatalogueRows}
use Rattle.catalog_rows.specs.Shown.{entry_in}
use Rattle.catalog_moves.specs.Bases.{IndexBases}
use Rattle.catalog_rows.specs.declared.entries.EntryRow.{EntryRow}
use Rattle.catalog.specs.declared.catalog.Catalog.{Catalog}
use Rattle.catalog.specs.declared.loading.Chains.{Chains}
use Rattle.catalog.specs.Damage.{ShowsNone}
use Rattle.catalog.specs.Knows.{Knows, NoDatabase, NoDatabaseAt}
use Rattle.catalog.specs.Loading.{AreFound, HoldsFor, IfKnown, IsMadeOf, IsOfParts, NoCatalogueIn, SpellsNone}

-- ---- what the rows of chains list

listed_found : {A : Type 0} (read : List ℕ → Option A) (cmp : A → A → Ordering) (pages : Pages) (rows : List (List ℕ)) (last : ℕ)
    → Found most_pages pages rows last → listed read cmp pages ≡ (each read rows >>= once cmp)
unfolding listed
listed_found read cmp pages rows last f =
    ap (λ o. o >>= (λ numbers. each read (bytes_of (lying pages numbers)) >>= once cmp)) f.chain ∙ ap (λ l. each read l >>= once cmp) (sym f.bytes)

-- the catalogue of the files is that of the rows that were found
pub catalogue_found : (m : Image) (c : Chains) → AreFound m c → catalogue_in (pages_of m) ≡ catalogue_of c.entries.rows c.columns.rows c.parts.rows
unfolding catalogue_in catalogue_of
catalogue_found m c f = λ i.
    listed_found entry_of entry_cmp (pages_of m 5) c.entries.rows c.entries.last f.entries i >>= (λ entries.
    listed_found column_of column_cmp (pages_of m 6) c.columns.rows c.columns.last f.columns i >>= (λ columns.
    listed_found part_of part_cmp (pages_of m 7) c.parts.rows c.parts.last f.parts i >>= (λ parts.
    Some (record { entries = entries; columns = columns; parts = parts }))))

set_read : {A : Type 0} (read : List ℕ → Option A) {cmp : A → A → Ordering} (order : IsTotalOrder cmp) (P : A → Type 0) → ((bytes : List ℕ) (a : A) → read bytes ≡ Some a → P a)
    → (rows : List (List ℕ)) (xs : List A) → (each read rows >>= once cmp) ≡ Some xs → IsStrictlySortedBy cmp xs × AllByRecursion P xs
set_read {A} read {cmp} order P holds rows xs h =
    let b = bind_some (each read rows) (once cmp) xs h in
    let o : IsOnce order b.0 xs = is_once order b.0 xs b.2 in (
      subst (IsStrictlySortedBy cmp) (sym o.set) (sorted_in_order order b.0),
      all_of P xs (λ x at. (let r = read_of read rows b.0 x b.1 (o.from x at) in holds r.0 x r.2)),
    )

-- what is read of rows is a catalogue
pub rows_are_a_catalogue : (es cs ps : List (List ℕ)) (cat : Catalogue) → catalogue_of es cs ps ≡ Some cat → IsCatalogue cat
unfolding catalogue_of
rows_are_a_catalogue es cs ps cat h =
    let a = bind_some (each entry_of es >>= once entry_cmp) _ cat h in
    let b = bind_some (each column_of cs >>= once column_cmp) _ cat a.2 in
    let c = bind_some (each part_of ps >>= once part_cmp) _ cat b.2 in
    let e = set_read entry_of entry_total (λ e. is_entry e ≡ true) (λ bytes e h. ((entries_are_their_bytes bytes e).0 h).0) es a.0 a.1 in
    let l = set_read column_of column_total (λ c. is_column c ≡ true) (λ bytes c h. ((columns_are_their_bytes bytes c).0 h).0) cs b.0 b.1 in
    let p = set_read part_of part_total (λ p. is_part p ≡ true) (λ bytes p h. ((parts_are_their_bytes bytes p).0 h).0) ps c.0 c.1 in
    subst IsCatalogue (same_Some _ cat c.2) (record { entries_ascend = e.0; columns_ascend = l.0; parts_ascend = p.0; are_entries = e.1; are_columns = l.1; are_parts = p.1 })

-- ---- the database that pages denote

-- The catalogue on the pages, which spells the database.
pub record SpelledOn (dba : List ℕ) (m : Image) (db : Db) : Type 0 where
  pub cat : Catalogue
  pub there : catalogue_in (pages_of m) ≡ Some cat
  pub spells : spelled dba (pages_of m) cat ≡ Some db
  pub is_one : IsDatabase db

pub spelled_on : (dba : List ℕ) (m : Image) (db : Db) → HoldsFor dba m db → SpelledOn dba m db
spelled_on dba m db h =
    let is_one = what_is_denoted_is_a_database m db h.stands in
    let p = (pages_stand_exactly m db is_one).0 h.stands in
    record {
      cat = printed db p.files;
      there = p.catalogue;
      spells = subst (λ d. spelled d (pages_of m) (printed db p.files) ≡ Some db) h.dba_is (what_is_printed_is_read (pages_of m) p.files db is_one p.has);
      is_one = is_one;
    }

-- no rows are known at first
pub no_rows : (c : Catalog) (db : Db) → ((key : RelKey) → is_in c.loaded key ≡ false) → schema_of db ≡ loaded_part (is_in c.loaded) db
unfolding loaded_part schema_of
no_rows c db none = sym (ap (λ (has : RelKey → Bool). record db { relations = map (λ r. elim (has r.info.key) [ true ↦ r | false ↦ bare r ]) db.relations }) (λ i key. none key i))

ends_of : (pages : Pages) (rows : List (List ℕ)) (last : ℕ) → Found most_pages pages rows last → EndsAt pages last
ends_of pages rows last f = record { earlier = f.earlier; chain = f.chain }

-- the last pages of the chains
abbrev pub ends_in : Chains → Ends
ends_in c = record { entries = c.entries.last; columns = c.columns.last; parts = c.parts.last }

pub chains_end : (m : Image) (chains : Chains) → AreFound m chains → AreEnds m (ends_in chains)
chains_end m chains found = record {
  entries = ends_of (pages_of m 5) chains.entries.rows chains.entries.last found.entries;
  columns = ends_of (pages_of m 6) chains.columns.rows chains.columns.last found.columns;
  parts = ends_of (pages_of m 7) chains.parts.rows chains.parts.last found.parts;
}

-- what was made of the rows knows the database that the pages denote
pub made_knows : (dba : List ℕ) (m : Image) (db : Db) (chains : Chains) (cat : Catalogue) (c : Catalog)
    → AreFound m chains → HoldsFor dba m db → catalogue_of chains.entries.rows chains.columns.rows chains.parts.rows ≡ Some cat → IsMadeOf dba cat (ends_in chains) c → Knows c m db
made_knows dba m db chains cat c found h read made =
    let s = spelled_on dba m db h in
    let same : s.cat ≡ cat = same_Some s.cat cat (sym s.there ∙ catalogue_found m chains found ∙ read) in
    let spells = subst (λ cat. spelled dba (pages_of m) cat ≡ Some db) same s.spells in
    let there = subst (λ cat. catalogue_in (pages_of m) ≡ Some cat) same s.there in
    let p = what_is_read_is_printed dba (pages_of m) cat db (catalogues_are_read (pages_of m) cat there) spells s.is_one in
    record {
      plain = made.schema (pages_of m) db spells ∙ no_rows c db made.none;
      bases = made.bases db (pages_of m) s.is_one (subst (HasFiles db (pages_of m)) (sym made.files) p.1) (ap (λ (c : Catalogue). c.entries) (p.0 ∙ ap (λ f. printed db f) (sym made.files)));
      catalogue = there ∙ ap Some p.0 ∙ ap (λ f. Some (printed db f)) (sym made.files);
      has = subst (HasFiles db (pages_of m)) (sym made.files) p.1;
      ends = subst (AreEnds m) (sym made.ends_there) (chains_end m chains found);
      owners = h.owners;
    }

-- rows that spell no database lie on pages that stand for none
pub none_read : (dba : List ℕ) (m : Image) (db : Db) (chains : Chains) → AreFound m chains → HoldsFor dba m db → catalogue_of chains.entries.rows chains.columns.rows chains.parts.rows ≡ None → ⊥
none_read dba m db chains found h read = let s = spelled_on dba m db h in absurd (cc (sym s.there ∙ catalogue_found m chains found ∙ read))

pub none_made : (dba : List ℕ) (m : Image) (db : Db) (chains : Chains) (cat : Catalogue)
    → AreFound m chains → HoldsFor dba m db → catalogue_of chains.entries.rows chains.columns.rows chains.parts.rows ≡ Some cat → SpellsNone dba cat → ⊥
none_made dba m db chains cat found h read none =
    let s = spelled_on dba m db h in
    let same : s.cat ≡ cat = same_Some s.cat cat (sym s.there ∙ catalogue_found m chains found ∙ read) in
    none (pages_of m) db (subst (λ cat. spelled dba (pages_of m) cat ≡ Some db) same s.spells) s.is_one h.owners

-- ---- chains that aren't there

no_list : {A : Type 0} (read : List ℕ → Option A) (cmp : A → A → Ordering) (pages : Pages) → chain most_pages pages ≡ None → listed read cmp pages ≡ None
unfolding listed
no_list read cmp pages e = ap (λ o. o >>= (λ numbers. each read (bytes_of (lying pages numbers)) >>= once cmp)) e

nothing_behind : {A B : Type 0} (o : Option A) → ◌≡◌ {A = Option B} (o >>= (λ x. None)) None
nothing_behind None = refl
nothing_behind (Some x) = refl

without_entries : (m : Image) → chain most_pages (pages_of m 5) ≡ None → catalogue_in (pages_of m) ≡ None
unfolding catalogue_in
without_entries m e = λ i. no_list entry_of entry_cmp (pages_of m 5) e i >>= (λ entries. listed column_of column_cmp (pages_of m 6) >>= (λ columns. listed part_of part_cmp (pages_of m 7) >>= (λ parts. Some (record { entries = entries; columns = columns; parts = parts }))))

without_columns : (m : Image) → chain most_pages (pages_of m 6) ≡ None → catalogue_in (pages_of m) ≡ None
unfolding catalogue_in
without_columns m e =
    (λ i. listed entry_of entry_cmp (pages_of m 5) >>= (λ entries. no_list column_of column_cmp (pages_of m 6) e i >>= (λ columns. listed part_of part_cmp (pages_of m 7) >>= (λ parts. Some (record { entries = entries; columns = columns; parts = parts })))))
    ∙ nothing_behind (listed entry_of entry_cmp (pages_of m 5))

without_parts : (m : Image) → chain most_pages (pages_of m 7) ≡ None → catalogue_in (pages_of m) ≡ None
unfolding catalogue_in
without_parts m e =
    (λ i. listed entry_of entry_cmp (pages_of m 5) >>= (λ entries. listed column_of column_cmp (pages_of m 6) >>= (λ columns. no_list part_of part_cmp (pages_of m 7) e i >>= (λ parts. Some (record { entries = entries; columns = columns; parts = parts })))))
    ∙ (λ i. listed entry_of entry_cmp (pages_of m 5) >>= (λ entries. nothing_behind {B = Catalogue} (listed column_of column_cmp (pages_of m 6)) i))
    ∙ nothing_behind (listed entry_of entry_cmp (pages_of m 5))

pub no_entries : (m : Image) (a : Addr) → NoChain 5 most_pages m a → NoCatalogueIn m a
no_entries m a broken = (without_entries m broken.none, inl broken)

pub no_columns : (m : Image) (a : Addr) → NoChain 6 most_pages m a → NoCatalogueIn m a
no_columns m a broken = (without_columns m broken.none, inr (inl broken))

pub no_parts : (m : Image) (a : Addr) → NoChain 7 most_pages m a → NoCatalogueIn m a
no_parts m a broken = (without_parts m broken.none, inr (inr broken))

-- ---- what is built of parts

owners_too : (db : Db) → index_owners_agree db ≡ true → index_owners_agree (schema_of db) ≡ true
unfolding index_owners_agree schema_of
owners_too db own = own

module _ (law : SpellsItsSchema) (dba : List ℕ) (cat : Catalogue) (found : Option SchemaParts) (read : option_map parts_in found ≡ parts_of cat) where
  pub schema_built : (parts : SchemaParts) (r : Result (Option DbPlain) OutOfMemory) → found ≡ Some parts → IfOk r (λ f. ForSome f (λ plain. whole dba (parts_in parts) ≡ Some (database_of plain)))
      → IfOk r (λ f. ForSome f (λ plain. (files : ℕ → Pages) (db : Db) → spelled dba files cat ≡ Some db → database_of plain ≡ schema_of db))
  schema_built parts (Err e) there h = h
  schema_built parts (Ok f) there h = λ plain at files db spells.
      (let s = law dba files cat db spells in
      let same : parts_in parts ≡ s.parts = same_Some (parts_in parts) s.parts (sym (ap (option_map parts_in) there) ∙ read ∙ s.are) in
      same_Some (database_of plain) (schema_of db) (sym (h plain at) ∙ ap (whole dba) same ∙ s.make))

  pub schema_refused : (parts : SchemaParts) (r : Result (Option DbPlain) OutOfMemory) → found ≡ Some parts
      → IfOk r (λ f. f ≡ None → (db : Db) → whole dba (parts_in parts) ≡ Some db → IsDatabase db → index_owners_agree db ≡ true → ⊥) → IfOk r (λ f. f ≡ None → SpellsNone dba cat)
  schema_refused parts (Err e) there h = h
  schema_refused parts (Ok f) there h = λ n files db spells is own.
      (let s = law dba files cat db spells in
      let same : parts_in parts ≡ s.parts = same_Some (parts_in parts) s.parts (sym (ap (option_map parts_in) there) ∙ read ∙ s.are) in
      h n (schema_of db) (ap (whole dba) same ∙ s.make) (schema_is_database db is) (owners_too db own))

  pub no_schema : found ≡ None → SpellsNone dba cat
  no_schema none files db spells is own = let s = law dba files cat db spells in absurd (cc (sym s.are ∙ sym read ∙ ap (option_map parts_in) none))

-- ---- keys of entries

-- the entries of a database lie by their files, and the file tells the key
keys_decide : (db : Db) (f : Files) (e : Entry) → IsIn e (printed db f).entries → e.file ≡ f.file e.key
unfolding printed entries_for
keys_decide db f e at =
    elim (in_either (map (relation_entry f) db.relations) (map (view_entry f) db.views ++ map (index_entry f) db.indexes) e (in_order_in entry_cmp _ e at)) [
      | inl r ↦ (let m = map_in (relation_entry f) db.relations e r in ap (λ (e : Entry). e.file) m.2 ∙ ap (λ (e : Entry). f.file e.key) (sym m.2))
      | inr o ↦ elim (in_either (map (view_entry f) db.views) (map (index_entry f) db.indexes) e o) [
        | inl v ↦ (let m = map_in (view_entry f) db.views e v in ap (λ (e : Entry). e.file) m.2 ∙ ap (λ (e : Entry). f.file e.key) (sym m.2))
        | inr x ↦ (let m = map_in (index_entry f) db.indexes e x in ap (λ (e : Entry). e.file) m.2 ∙ ap (λ (e : Entry). f.file e.key) (sym m.2))
      ]
    ]

file_itself : (n : ℕ) → is_eq (nat_cmp n n) ≡ true
file_itself n = ap is_eq (tied_itself nat_cmp_total n)

keys_differ : (xs : List Entry) → ((a b : Entry) → IsIn a xs → IsIn b xs → same_key a.key b.key ≡ true → a.file ≡ b.file) → NoneEqual entry_cmp xs → differ_by same_key (map (λ e. e.key) xs) ≡ true
keys_differ [] h n = refl
keys_differ (x ∷ xs) h n =
    together (not (list_any (same_key x.key) (map (λ e. e.key) xs))) (differ_by same_key (map (λ e. e.key) xs)) (none xs (λ y at. h x y (inl refl) (inr at)) n.0) (keys_differ xs (λ a b at bt. h a b (inr at) (inr bt)) n.1)
  where
    none : (ys : List Entry) → ((y : Entry) → IsIn y ys → same_key x.key y.key ≡ true → x.file ≡ y.file) → AllByRecursion (λ y. is_eq (entry_cmp x y) ≡ false) ys → not (list_any (same_key x.key) (map (λ e. e.key) ys)) ≡ true
    none [] h n = refl
    none (y ∷ ys) h n = go (same_key x.key y.key) refl (none ys (λ z at. h z (inr at)) n.1)
      where
        go : (b : Bool) → same_key x.key y.key ≡ b → not (list_any (same_key x.key) (map (λ e. e.key) ys)) ≡ true → not (b || list_any (same_key x.key) (map (λ e. e.key) ys)) ≡ true
        go true e later = absurd (cc ((sym (ap (λ n. is_eq (nat_cmp x.file n)) (h y (inl refl) e)) ∙ file_itself x.file, n.0)))
        go false e later = later

pub entry_keys_differ : (dba : List ℕ) (files : ℕ → Pages) (cat : Catalogue) (db : Db) → IsCatalogue cat → spelled dba files cat ≡ Some db → IsDatabase db → differ_by same_key (map (λ e. e.key) cat.entries) ≡ true
entry_keys_differ dba files cat db is_cat spells is =
    let p = what_is_read_is_printed dba files cat db is_cat spells is in
    let known = λ (e : Entry) (at : IsIn e cat.entries). keys_decide db (files_in cat) e (subst (λ (c : Catalogue). IsIn e c.entries) p.0 at) in
    keys_differ cat.entries (λ a b at bt h. known a at ∙ ap (files_in cat).file (same_key_is a.key b.key h) ∙ sym (known b bt)) (sorted_apart entry_cmp cat.entries is_cat.entries_ascend)

keys_shown : (es : List EntryRow) → map (λ e. e.key) (map entry_in es) ≡ map (λ e. e.key) es
keys_shown [] = refl
keys_shown (e ∷ es) = ap (λ ks. e.key ∷ ks) (keys_shown es)

-- entries of which a key stands twice spell no database
pub no_table : (dba : List ℕ) (rows : CatalogueRows) → IsCatalogue (catalogue_shown rows) → differ_by same_key (map (λ e. e.key) rows.entries) ≡ false → SpellsNone dba (catalogue_shown rows)
unfolding catalogue_shown
no_table dba rows is_cat twice files db spells is own =
    absurd (cc (sym twice ∙ ap (differ_by same_key) (sym (keys_shown rows.entries)) ∙ entry_keys_differ dba files (catalogue_shown rows) db is_cat spells is))

-- ---- what is known of the rows

files_shown : (rows : CatalogueRows) → files_in (record { entries = map entry_in rows.entries; columns = []; parts = [] }) ≡ files_in (catalogue_shown rows)
unfolding files_in entry_under catalogue_shown
files_shown rows = refl

pub is_made : (dba : List ℕ) (rows : CatalogueRows) (ends : Ends) (c x : Catalog) → Some c ≡ Some x → ((files : ℕ → Pages) (db : Db) → spelled dba files (catalogue_shown rows) ≡ Some db → database_of c.plain ≡ schema_of db)
    → files_of c.files ≡ files_in (record { entries = map entry_in rows.entries; columns = []; parts = [] }) → ((key : RelKey) → is_in c.loaded key ≡ false) → c.ends ≡ ends
    → ((db : Db) (files : ℕ → Pages) → IsDatabase db → HasFiles db files (files_of c.files) → map entry_in rows.entries ≡ (printed db (files_of c.files)).entries → IndexBases c.files db) → IsOfParts dba (catalogue_shown rows) (database_of c.plain) → IsMadeOf dba (catalogue_shown rows) ends x
unfolding catalogue_shown
is_made dba rows ends c x same schema files none ends_there bases of_parts =
    subst (IsMadeOf dba (catalogue_shown rows) ends) (same_Some c x same) (record { schema = schema; files = files ∙ files_shown rows; none = none; of_parts = of_parts; ends_there = ends_there; bases = bases })

pub known_made : (dba : List ℕ) (m : Image) (db : Db) (chains : Chains) (cat : Catalogue) (r : Result (Option Catalog) OutOfMemory)
    → catalogue_of chains.entries.rows chains.columns.rows chains.parts.rows ≡ Some cat → AreFound m chains → HoldsFor dba m db
    → IfOk r (λ f. ForSome f (λ c. IsMadeOf dba cat (ends_in chains) c)) → IfOk r (λ f. f ≡ None → SpellsNone dba cat) → IfOk r (λ f. IfKnown m db f)
known_made dba m db chains cat (Err e) read found h made none = made
known_made dba m db chains cat (Ok None) read found h made none = none_made dba m db chains cat found h read (none refl)
known_made dba m db chains cat (Ok (Some c)) read found h made none = made_knows dba m db chains cat c found h read (made c refl)

-- ---- pages that hold no catalogue

no_database : (dba : List ℕ) (m : Image) (a : Addr) → catalogue_in (pages_of m) ≡ None → NoDatabase dba m a
no_database dba m a none db stands named owners =
    let s = spelled_on dba m db (record { stands = stands; dba_is = named; owners = owners }) in absurd (cc (sym s.there ∙ none))

pub no_catalogue : (dba : List ℕ) (m : Image) (a : Addr) → NoCatalogueIn m a → NoDatabaseAt dba m a
no_catalogue dba m a none = (no_database dba m a none.0, inl none.1)

chained : (o : Option (List ℕ)) (numbers : List ℕ) → o ≡ Some numbers → IsTrue (is_some o)
chained o numbers is = subst (λ o. IsTrue (is_some o)) (sym is) refl

-- where all three chains were found, the first page of the entries shows it
pub first_page : (m : Image) (chains : Chains) → AreFound m chains → ShowsNone m (record { file = 5; page = 0 })
first_page m chains found = inr (record {
  entries = chained _ _ found.entries.chain;
  columns = chained _ _ found.columns.chain;
  parts = chained _ _ found.parts.chain;
  file = refl;
  page = refl;
})
