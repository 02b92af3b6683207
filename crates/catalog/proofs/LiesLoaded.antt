-- What was made of the catalogues lies on the pages.
use Rattle.std.proofs.Common.{◌≡◌, sym, ap, subst, ◌∙◌, true≢false, ℕ, true, List, map, Option, Some, None, Result, Ok, Err}
use Rattle.std.specs.Prelude.{IfOk}
use Rattle.std.specs.Option.{ForSome, option_map}
use Rattle.std.proofs.lemmas.Option.{same_Some, none-some}
use Rattle.calculus.specs.Database.{Db}
use Rattle.calculus.specs.Keys.{key_cmp, numbered_cmp}
use Rattle.calculus.specs.Schema.{schema_of}
use Rattle.memory.specs.declared.out_of_memory.OutOfMemory.{OutOfMemory}
use Rattle.disk_model.specs.Disk.{Image}
use Rattle.page_chain.specs.Lists.{once}
use Rattle.page_chain.specs.Pages.{pages_of}
use Rattle.plain_base.specs.Shown.{database_of}
use Rattle.plain_base.specs.declared.db_plain.DbPlain.{DbPlain}
use Rattle.catalog_read.specs.declared.parts.SchemaParts.{SchemaParts}
use Rattle.catalog_read.specs.Parts.{Parts, index_owners_agree, parts_in, relation_in, whole}
use Rattle.stored_database.specs.Catalogue.{Catalogue, catalogue_in}
use Rattle.stored_database.specs.Printed.{HasFiles, files_in, printed}
use Rattle.stored_database.proofs.FilesAgain.{what_is_read_is_printed}
use Rattle.stored_database.proofs.Reading.{bind_some}
use Rattle.catalog_moves.specs.Files.{files_of}
use Rattle.catalog_pages.specs.Ends.{AreEnds}
use Rattle.catalog_read.proofs.SpellsSchema.{spells_its_schema}
use Rattle.catalog_read.specs.Read.{catalogue_of, parts_of}
use Rattle.catalog_laws.specs.Unread.{SpellsWithout}
use Rattle.catalog_laws.proofs.Spelling.{parts_are_spelled}
use Rattle.catalog.specs.Lies.{LiesOn}
use Rattle.catalog.specs.Loading.{AreFound, IsMadeOf, IsOfParts}
use Rattle.catalog.specs.declared.catalog.Catalog.{Catalog}
use Rattle.catalog.specs.declared.loading.Chains.{Chains}
use Rattle.catalog.proofs.Known.{catalogue_stays, ends_stay}
use Rattle.catalog.proofs.ReadRows.{catalogue_found, chains_end, ends_in, no_rows, rows_are_a_catalogue}

-- ---- what is built of parts

-- the administrator is the one that was given
pub whole_dba : (dba : List ℕ) (parts : Parts) (db : Db) → whole dba parts ≡ Some db → db.dba ≡ dba
unfolding whole
whole_dba dba parts db e =
    let a = bind_some (once (λ a b. key_cmp a.info.key b.info.key) (map relation_in parts.relations)) _ db e in
    let b = bind_some (once (λ a b. key_cmp a.info.key b.info.key) parts.indexes) _ db a.2 in
    let c = bind_some (once (λ a b. key_cmp a.info.key b.info.key) parts.views) _ db b.2 in
    let d = bind_some (once (numbered_cmp (λ r. r.number)) parts.rules) _ db c.2 in
    let f = bind_some (once (numbered_cmp (λ p. p.number)) parts.permits) _ db d.2 in
    ap (λ (d : Db). d.dba) (sym (same_Some _ db f.2))

-- what was built is of the parts that the catalogue spells
pub of_parts : (dba : List ℕ) (cat : Catalogue) (found : Option SchemaParts) (parts : SchemaParts) (r : Result (Option DbPlain) OutOfMemory) → option_map parts_in found ≡ parts_of cat → found ≡ Some parts
    → IfOk r (λ f. ForSome f (λ plain. whole dba (parts_in parts) ≡ Some (database_of plain))) → IfOk r (λ f. ForSome f (λ plain. index_owners_agree (database_of plain) ≡ true))
    → IfOk r (λ f. ForSome f (λ plain. IsOfParts dba cat (database_of plain)))
of_parts dba cat found parts (Err e) read there built owned = tt
of_parts dba cat found parts (Ok f) read there built owned = λ plain is.
    (record { parts = parts_in parts; are = sym read ∙ ap (option_map parts_in) there; make = built plain is; owners = owned plain is })

-- ---- what is known in memory

module _ (dba : List ℕ) (m : Image) (chains : Chains) (cat : Catalogue) (c : Catalog) (found : AreFound m chains)
    (read : catalogue_of chains.entries.rows chains.columns.rows chains.parts.rows ≡ Some cat) (made : IsMadeOf dba cat (ends_in chains) c) where
  there : catalogue_in (pages_of m) ≡ Some cat
  there = catalogue_found m chains found ∙ read

  spelled_so : SpellsWithout dba cat (database_of c.plain) m
  spelled_so =
      parts_are_spelled dba cat made.of_parts.parts (database_of c.plain) m (rows_are_a_catalogue chains.entries.rows chains.columns.rows chains.parts.rows cat read) made.of_parts.are made.of_parts.make c.plain.is

  is_printed : (cat ≡ printed (database_of c.plain) (files_in cat)) × HasFiles (database_of c.plain) (pages_of spelled_so.image) (files_in cat)
  is_printed =
      what_is_read_is_printed dba (pages_of spelled_so.image) cat (database_of c.plain) (rows_are_a_catalogue chains.entries.rows chains.columns.rows chains.parts.rows cat read) spelled_so.spells c.plain.is

  has : HasFiles (database_of c.plain) (pages_of spelled_so.image) (files_of c.files)
  has = subst (HasFiles (database_of c.plain) (pages_of spelled_so.image)) (sym made.files) is_printed.1

  -- it has no rows
  is_bare : database_of c.plain ≡ schema_of (database_of c.plain)
  is_bare =
      let s = spells_its_schema dba (pages_of spelled_so.image) cat (database_of c.plain) spelled_so.spells in
      same_Some (database_of c.plain) (schema_of (database_of c.plain)) (sym made.of_parts.make ∙ ap (whole dba) (same_Some made.of_parts.parts s.parts (sym made.of_parts.are ∙ s.are)) ∙ s.make)

  pub made_lies : LiesOn c m
  made_lies = record {
    over = spelled_so.image;
    first = spelled_so.low;
    read = λ key here known. absurd (true≢false (sym known ∙ made.none key));
    knows = record {
      plain = is_bare ∙ no_rows c (database_of c.plain) made.none;
      catalogue = catalogue_stays m spelled_so.image spelled_so.low cat there ∙ ap Some (is_printed.0 ∙ ap (λ f. printed (database_of c.plain) f) (sym made.files));
      has = has;
      ends = subst (AreEnds spelled_so.image) (sym made.ends_there) (ends_stay m spelled_so.image spelled_so.low (ends_in chains) (chains_end m chains found));
      owners = made.of_parts.owners;
      bases = made.bases (database_of c.plain) (pages_of spelled_so.image) c.plain.is has (ap (λ (c : Catalogue). c.entries) (is_printed.0 ∙ ap (λ f. printed (database_of c.plain) f) (sym made.files)));
    };
  }

  pub made_dba : (database_of c.plain).dba ≡ dba
  made_dba = whole_dba dba made.of_parts.parts (database_of c.plain) made.of_parts.make

-- what was made, if anything was
pub lies_made : (dba : List ℕ) (m : Image) (chains : Chains) (cat : Catalogue) (r : Result (Option Catalog) OutOfMemory) → AreFound m chains
    → catalogue_of chains.entries.rows chains.columns.rows chains.parts.rows ≡ Some cat → IfOk r (λ f. ForSome f (λ c. IsMadeOf dba cat (ends_in chains) c)) → IfOk r (λ f. ForSome f (λ c. LiesOn c m))
lies_made dba m chains cat (Err e) found read made = tt
lies_made dba m chains cat (Ok f) found read made = λ c is. made_lies dba m chains cat c found read (made c is)

pub dba_made : (dba : List ℕ) (chains : Chains) (cat : Catalogue) (r : Result (Option Catalog) OutOfMemory)
    → IfOk r (λ f. ForSome f (λ c. IsMadeOf dba cat (ends_in chains) c)) → IfOk r (λ f. ForSome f (λ c. (database_of c.plain).dba ≡ dba))
dba_made dba chains cat (Err e) made = tt
dba_made dba chains cat (Ok f) made = λ c is. whole_dba dba (made c is).of_parts.parts (database_of c.plain) (made c is).of_parts.make

-- where nothing was made, nothing is said
pub none_made_so : (P : Catalog → Type 0) → ForSome None P
none_made_so P x is = absurd (none-some x is)
