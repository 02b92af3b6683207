-- What is known in memory once rows of a relation were read.
use Rattle.std.proofs.Common.{◌≡◌, refl, sym, ap, subst, ◌∙◌, ℕ, ◌<◌, ◌&&◌, ◌||◌, nat_le, Bool, true, false, List, [], ◌∷◌, map, Option, Some, None, inl, inr, arith}
use Rattle.std.specs.Prelude.{◌⊎◌, is_some}
use Rattle.std.specs.Option.{option_map}
use Rattle.std.proofs.lemmas.Bool.Decides.{nat_tests}
use Rattle.calculus.specs.declared.change.DbChange.TheVariants.{Rows}
use Rattle.calculus.specs.declared.query.RelKey.{RelKey}
use Rattle.calculus.specs.declared.schema.RelInfo.{RelInfo}
use Rattle.calculus.specs.Change.{IsLawful, change_at, laid}
use Rattle.calculus.specs.Database.{Db, Relation, entries, is_relation, relation_at}
use Rattle.calculus.specs.IsDatabase.{IsDatabase}
use Rattle.calculus.specs.Keys.{same_key}
use Rattle.calculus.specs.Replacement.{with_rows, without_rows}
use Rattle.calculus.specs.Rows.{Row}
use Rattle.calculus.specs.Schema.{bare, schema_of}
use Rattle.calculus.specs.Stored.{rows_at}
use Rattle.calculus.specs.Value.{row_cmp}
use Rattle.disk_model.specs.Disk.{Image}
use Rattle.disk_model.specs.declared.disk.Addr.{Addr}
use Rattle.am_traits.specs.Placed.{rows_of}
use Rattle.calculus.specs.declared.schema.RelFile.{RelFile}
use Rattle.heap_am.specs.Heap.{HeapFault, heap_rows}
use Rattle.page_chain.specs.Lists.{◌>>=◌, each, once}
use Rattle.page_chain.specs.Pages.{pages_of}
use Rattle.page_chain.specs.Rows.{reader, set_on}
use Rattle.plain_base.specs.Shown.{database_of}
use Rattle.stored_database.specs.Names.{is_number32}
use Rattle.stored_database.specs.Printed.{HasFiles, is_file, printed, rows_in}
use Rattle.stored_database.specs.Spelled.{domain_of}
use Rattle.stored_database.proofs.Members.{IsIn, found_in, in_first, in_map, of_all, of_tests}
use Rattle.stored_database.proofs.Orders.{same_key_is, same_key_itself}
use Rattle.stored_database.proofs.Reading.{both}
use Rattle.catalog_laws.specs.Loaded.{loaded_part, with_key}
use Rattle.catalog_laws.proofs.Part.{part, part_info, relation_part}
use Rattle.catalog_laws.proofs.PartRows.{rows_known, rows_of_others}
use Rattle.catalog_laws.proofs.RowsCome.{takes_rows}
use Rattle.relation_rows.proofs.Holding.{Holds, holds}
use Rattle.catalog_moves.specs.Bases.{IndexBases}
use Rattle.catalog_moves.specs.Files.{files_of, is_in}
use Rattle.catalog_pages.specs.Ends.{AreEnds}
use Rattle.catalog.specs.declared.catalog.Catalog.{Catalog}
use Rattle.catalog.specs.Filling.{IsFileOf, IsSame, IsTaken}
use Rattle.catalog.specs.Knows.{Knows, KnowsNone}

-- the same is known where nothing changed
pub knows_same : (before now : Catalog) (m : Image) (db : Db) → IsSame before now → Knows before m db → Knows now m db
knows_same before now m db s k = record {
  plain = s.plain ∙ k.plain ∙ ap (λ (has : RelKey → Bool). loaded_part has db) (sym (λ i key. s.loaded key i));
  catalogue = k.catalogue ∙ ap (λ t. Some (printed db (files_of t))) (sym s.files);
  has = subst (λ t. HasFiles db (pages_of m) (files_of t)) (sym s.files) k.has;
  ends = subst (AreEnds m) (sym s.ends_stay) k.ends;
  owners = k.owners;
  bases = subst (λ t. IndexBases t db) (sym s.files) k.bases;
}

-- ---- the rows of a relation on its pages

-- A relation of the database stands under the key, and on the pages of this file are its rows.
pub record OnPages (m : Image) (db : Db) (key : RelKey) (file : RelFile) : Type 0 where
  pub r : Relation
  pub there : relation_at db key ≡ Some r
  pub named : r.info.key ≡ key
  pub on : Holds file m r.rows

-- The relation that stands under the key.
pub record Stands (db : Db) (key : RelKey) : Type 0 where
  pub r : Relation
  pub there : relation_at db key ≡ Some r
  pub named : r.info.key ≡ key
  pub one : IsIn r db.relations

pub stands : (has : RelKey → Bool) (db : Db) (key : RelKey) → is_relation (loaded_part has db) key ≡ true → Stands db key
stands has db key h = go (relation_at db key) refl
  where
    go : (o : Option Relation) → relation_at db key ≡ o → Stands db key
    go None e = absurd (cc (sym h ∙ ap is_some (relation_part has db key ∙ ap (option_map (part has)) e)))
    go (Some r) e = let f = found_in (λ (r : Relation). same_key r.info.key key) db.relations r e in record { r = r; there = e; named = same_key_is r.info.key key f.1; one = f.0 }

pub on_pages : (c : Catalog) (m : Image) (db : Db) (key : RelKey) (file : RelFile) → Knows c m db → is_relation (database_of c.plain) key ≡ true → IsFileOf (database_of c.plain) (files_of c.files) key file → OnPages m db key file
unfolding rows_in
on_pages c m db key file k h f =
    let has = is_in c.loaded in
    let s = stands has db key (ap (λ d. is_relation d key) (sym k.plain) ∙ h) in
    let under : relation_at (database_of c.plain) key ≡ Some (part has s.r) = ap (λ d. relation_at d key) k.plain ∙ relation_part has db key ∙ ap (option_map (part has)) s.there in
    let domains : each domain_of s.r.info.attrs ≡ Some file.domains = ap (λ (i : RelInfo). each domain_of i.attrs) (sym (part_info has s.r)) ∙ f.domains (part has s.r) (sym under) in
    let rows = of_all (λ r. rows_in (pages_of m) (files_of c.files) r ≡ Some r.rows) db.relations s.r k.has.rows s.one in
    let here : set_on (reader file.domains) ((files_of c.files).used s.r.info.key) (pages_of m ((files_of c.files).file s.r.info.key)) ≡ Some s.r.rows =
    sym (ap (λ ds. ds >>= (λ domains. set_on (reader domains) ((files_of c.files).used s.r.info.key) (pages_of m ((files_of c.files).file s.r.info.key)))) domains) ∙ rows in
    record {
      r = s.r;
      there = s.there;
      named = s.named;
      on = holds file m s.r.rows
          ((λ i. set_on (reader file.domains) (f.pages i) (pages_of m (f.number i)))
          ∙ sym (λ i. set_on (reader file.domains) ((files_of c.files).used (s.named i)) (pages_of m ((files_of c.files).file (s.named i))))
          ∙ here);
    }

-- pages at fault hold no such rows
pub at_fault_none : (c : Catalog) (m : Image) (key : RelKey) (file : RelFile) (a : Addr) → is_relation (database_of c.plain) key ≡ true → IsFileOf (database_of c.plain) (files_of c.files) key file → HeapFault file m a → KnowsNone c m a
at_fault_none c m key file a h f fault = λ db is k. (let o = on_pages c m db key file k h f in absurd (cc (sym fault.none ∙ o.on.are)))

-- the file of a relation is one, and it has a page
pub no_file_none : (c : Catalog) (m : Image) (key : RelKey) (a : Addr) → is_relation (database_of c.plain) key ≡ true → ((files_of c.files).file key < 16 ⊎ (files_of c.files).used key < 1) → KnowsNone c m a
no_file_none c m key a h none = λ db is k.
    (let s = stands (is_in c.loaded) db key (ap (λ d. is_relation d key) (sym k.plain) ∙ h) in
    let at : IsIn s.r.info (entries db) = in_first _ _ s.r.info (in_map (λ (r : Relation). r.info) db.relations s.r s.one) in
    let number : is_file ((files_of c.files).file key) ≡ true = ap (λ key. is_file ((files_of c.files).file key)) (sym s.named) ∙ of_tests (λ (i : RelInfo). is_file ((files_of c.files).file i.key)) (entries db) s.r.info k.has.are_files at in
    let pages = of_tests (λ (r : Relation). nat_le 1 ((files_of c.files).used r.info.key) && is_number32 ((files_of c.files).used r.info.key)) db.relations s.r k.has.some_pages s.one in
    let some : nat_le 1 ((files_of c.files).used key) ≡ true = ap (λ key. nat_le 1 ((files_of c.files).used key)) (sym s.named) ∙ (both (nat_le 1 ((files_of c.files).used s.r.info.key)) (is_number32 ((files_of c.files).used s.r.info.key)) pages).0 in
    go ((files_of c.files).file key) ((files_of c.files).used key) (both (nat_le 16 ((files_of c.files).file key)) (is_number32 ((files_of c.files).file key)) number).0 some none)
  where
    go : (file used : ℕ) → nat_le 16 file ≡ true → nat_le 1 used ≡ true → (file < 16 ⊎ used < 1) → ⊥
    go file used low some (inl few) = grind (arith, nat_tests)
    go file used low some (inr few) = grind (arith, nat_tests)

-- ---- rows that were read

-- Rows that were read of the pages may come to what is known in memory, and then it is known with them.
pub record MayCome (c : Catalog) (db : Db) (key : RelKey) (rows : List Row) : Type 0 where
  pub lawful : IsLawful (database_of c.plain) (Rows key [] rows)
  pub after : laid (database_of c.plain) (Rows key [] rows) ≡ loaded_part (with_key key (is_in c.loaded)) db

pub may_come : (c : Catalog) (m : Image) (db : Db) (key : RelKey) (file : RelFile) (rows : List Row) → IsDatabase db → Knows c m db → is_in c.loaded key ≡ false → is_relation (database_of c.plain) key ≡ true
    → IsFileOf (database_of c.plain) (files_of c.files) key file → ((placed : _) → heap_rows file m ≡ Some placed → rows ≡ rows_of placed) → MayCome c db key rows
may_come c m db key file rows is k unread h f known =
    let has = is_in c.loaded in
    let o = on_pages c m db key file k h f in
    let set : once row_cmp rows ≡ Some o.r.rows = ap (once row_cmp) (known o.on.placed o.on.are) ∙ o.on.set in
    let there : Some o.r ≡ relation_at db o.r.info.key = sym (ap (relation_at db) o.named ∙ o.there) in
    let new : has o.r.info.key ≡ false = ap has o.named ∙ unread in
    let change = λ (key : RelKey). Rows key [] rows in
    record {
      lawful = subst (λ d. IsLawful d (change key)) (sym k.plain) (subst (λ key. IsLawful (loaded_part has db) (change key)) o.named (takes_rows.lawful has db o.r rows is there new set));
      after = ap (λ d. laid d (change key)) k.plain ∙ sym (λ i. laid (loaded_part has db) (change (o.named i))) ∙ takes_rows.after has db o.r rows is there new set ∙ ap (λ key. loaded_part (with_key key has) db) o.named;
    }

pub knows_with : (before now : Catalog) (m : Image) (db : Db) (key : RelKey) (rows : List Row) → IsTaken before now key rows → MayCome before db key rows → Knows before m db → Knows now m db
knows_with before now m db key rows t may k = record {
  plain = t.plain ∙ may.after ∙ ap (λ (has : RelKey → Bool). loaded_part has db) (sym (λ i key. t.loaded key i));
  catalogue = k.catalogue ∙ ap (λ t. Some (printed db (files_of t))) (sym t.files);
  has = subst (λ t. HasFiles db (pages_of m) (files_of t)) (sym t.files) k.has;
  ends = subst (AreEnds m) (sym t.ends_stay) k.ends;
  owners = k.owners;
  bases = subst (λ t. IndexBases t db) (sym t.files) k.bases;
}

-- rows that are known are those of the database
pub rows_are : (c : Catalog) (m : Image) (db : Db) (key : RelKey) → Knows c m db → is_in c.loaded key ≡ true → rows_at (database_of c.plain) key ≡ rows_at db key
rows_are c m db key k h = ap (λ d. rows_at d key) k.plain ∙ rows_known (is_in c.loaded) db key h

pub taken_is_in : (before now : Catalog) (key : RelKey) (rows : List Row) → IsTaken before now key rows → is_in now.loaded key ≡ true
taken_is_in before now key rows t = t.loaded key ∙ ap (λ b. b || is_in before.loaded key) (same_key_itself key)

-- so are those under a key where no relation stands
pub other_rows_are : (c : Catalog) (m : Image) (db : Db) (key : RelKey) → Knows c m db → is_relation (database_of c.plain) key ≡ false → rows_at (database_of c.plain) key ≡ rows_at db key
other_rows_are c m db key k h = ap (λ d. rows_at d key) k.plain ∙ rows_of_others (is_in c.loaded) db key (go (relation_at db key) refl)
  where
    go : (o : Option Relation) → relation_at db key ≡ o → None ≡ relation_at db key
    go None e = sym e
    go (Some r) e = absurd (cc (sym h ∙ ap (λ d. is_relation d key) k.plain ∙ ap is_some (relation_part (is_in c.loaded) db key ∙ ap (option_map (part (is_in c.loaded))) e)))

-- rows that come don't change the schema
with_other_rows : (key : RelKey) (f : Relation → Relation) → ((r : Relation) → bare (f r) ≡ bare r) → (rs : List Relation) → map bare (change_at key f rs) ≡ map bare rs
with_other_rows key f same [] = refl
with_other_rows key f same (r ∷ rs) = λ i. go (same_key r.info.key key) i ∷ with_other_rows key f same rs i
  where
    go : (b : Bool) → bare (elim b as (λ b. Relation) [ true ↦ f r | false ↦ r ]) ≡ bare r
    go true = same r
    go false = refl

pub rows_keep_schema : (db : Db) (key : RelKey) (rows : List Row) → schema_of (laid db (Rows key [] rows)) ≡ schema_of db
unfolding laid schema_of
rows_keep_schema db key rows = λ i. record db { relations = with_other_rows key (λ r. record r { rows = with_rows rows (without_rows [] r.rows) }) (λ r. refl) db.relations i }
