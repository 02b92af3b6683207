-- How many pages are read.
use Rattle.std.proofs.Common.{◌≡◌, ◌≢◌, refl, sym, ap, subst, ◌∙◌, arith, ℕ, ◌+◌, Bool, true, false, IsTrue, Option, Some, None, Result, Ok, Err, OnOk, ◌||◌, not}
use Rattle.std.specs.Prelude.{is_some}
use Rattle.std.proofs.lemmas.Option.{same_Some}
use Rattle.calculus.specs.declared.query.RelKey.{RelKey}
use Rattle.calculus.specs.Database.{Db, is_relation}
use Rattle.calculus.specs.Schema.{schema_of}
use Rattle.disk_model.specs.Disk.{Image, RisesUpTo}
use Rattle.batch_file.specs.Layout.{gate}
use Rattle.batch_file.specs.Redone.{kept, redone}
use Rattle.batch_file.proofs.Applies.{redone_shut}
use Rattle.page_chain.specs.Pages.{pages_of}
use Rattle.plain_base.specs.Shown.{database_of}
use Rattle.stored_database.specs.Catalogue.{catalogue_in}
use Rattle.stored_database.specs.Printed.{printed}
use Rattle.catalog_moves.specs.Files.{files_of, is_in}
use Rattle.catalog_moves.specs.declared.files.FileTable.{FileTable}
use Rattle.catalog_moves.specs.declared.key_set.KeySet.{KeySet}
use Rattle.catalog_pages.specs.declared.writing.Ends.{Ends}
use Rattle.catalog.specs.Reads.{HasChains}
use Rattle.catalog.specs.declared.catalog.Catalog.{Catalog}
use Rattle.catalog.proofs.Rises.{rises_less, then_rises}
use Rattle.db_disk.specs.Held.{held}
use Rattle.db_disk.specs.Known.{IsKnown, SameKnown, known_part, schema_known}
use Rattle.db_disk.specs.Reads.{OpensBy, files_in, rows_in}
use Rattle.db_disk.proofs.KnowsProp.{untruncated}

-- ---- an opening

-- the pages that count are the same once the gate was found shut
pub opened_by : (m n : Image) → gate m ≢ 1 → redone m ≡ Some (kept n) → kept n ≡ kept m
opened_by m n shut is = same_Some (kept n) (kept m) (sym is ∙ redone_shut m shut)

-- the gate's page was read, and then the head and the catalogues
pub opens_then : (m n : Image) (all a b c : ℕ) → OpensBy m all → redone m ≡ Some (kept n) → RisesUpTo 1 a b → ((k : ℕ) → HasChains (kept n) k → RisesUpTo (k + 2) b c) → RisesUpTo all a c
opens_then m n all a b c by is one then =
    let k = by.catalogues in
    let e = by.in_all in
    rises_less (1 + (k + 2)) all a c (omega (arith, e))
    (then_rises 1 (k + 2) a b c one (then k (subst (λ x. HasChains x k) (sym (opened_by m n by.shut is)) by.chains)))

-- no more than the gate's page was read
pub opens_not : (m : Image) (all a b : ℕ) → OpensBy m all → RisesUpTo 1 a b → RisesUpTo all a b
opens_not m all a b by one = let e = by.in_all in rises_less 1 all a b (omega (arith, e)) one

-- nothing was read at first
pub then_reads : (n a b c : ℕ) → b ≡ a → RisesUpTo n b c → RisesUpTo n a c
then_reads n a b c same rise = subst (λ x. RisesUpTo n x c) same rise

-- ---- what is known

abbrev Part : Type 0
Part = Db × KeySet × FileTable × Ends

pub same_rows : (a b : Option Catalog) (key : RelKey) → SameKnown a b → rows_in b key ≡ rows_in a key
same_rows None None key same = refl
same_rows None (Some c) key same = absurd (cc same)
same_rows (Some c) None key same = absurd (cc same)
same_rows (Some a) (Some b) key same = ap (λ (p : Part). is_in p.1 key || not (is_relation p.0 key)) (same_Some (known_part b) (known_part a) same)

pub same_files : (a b : Option Catalog) → SameKnown a b → files_in b ≡ files_in a
same_files None None same = refl
same_files None (Some c) same = absurd (cc same)
same_files (Some c) None same = absurd (cc same)
same_files (Some a) (Some b) same = ap (λ (p : Part). files_of p.2) (same_Some (known_part b) (known_part a) same)

-- where rows are in memory a schema is known
pub rows_of_schema : (catalog : Option Catalog) (key : RelKey) (P : Type 0) → rows_in catalog key ≡ true → ((s : Db) → schema_known catalog ≡ Some s → P) → P
rows_of_schema None key P is each = absurd (cc is)
rows_of_schema (Some c) key P is each = each (schema_of (database_of c.plain)) refl

-- a schema that is known stays
pub still_there : {T E : Type 0} (a b : Option Catalog) (r : Result T E) → schema_known b ≡ schema_known a → IsTrue (is_some (schema_known a)) → OnOk r (IsTrue (is_some (schema_known b)))
still_there a b (Ok x) same there = subst (λ (o : Option Db). IsTrue (is_some o)) (sym same) there
still_there a b (Err e) same there = tt

-- the files that are known are those of the catalogue on the disk
pub files_held : (m : Image) (catalog : Option Catalog) (db : Db) → IsKnown m catalog → held m ≡ Some db → IsTrue (is_some (schema_known catalog))
    → catalogue_in (pages_of (kept m)) ≡ Some (printed db (files_in catalog))
files_held m None db is holds there = absurd (cc there)
files_held m (Some c) db is holds there = (untruncated (is.each c db refl holds)).catalogue

-- where there is none no schema is known
pub none_there : (catalog : Option Catalog) (b : Bool) (s : Db) (P : Type 0) → b ≡ is_some catalog → b ≡ false → schema_known catalog ≡ Some s → P
none_there None b s P e off is = absurd (cc is)
none_there (Some c) b s P e off is = let bad : true ≡ false = sym e ∙ off in absurd (cc bad)

-- rows that are in memory stay there where the catalogue stays wherever a schema is known
pub rows_stay : (a b : Option Catalog) (key : RelKey) → ((s : Db) → schema_known a ≡ Some s → b ≡ a) → rows_in a key ≡ true → rows_in b key ≡ true
rows_stay a b key same is = rows_of_schema a key (rows_in b key ≡ true) is (λ s schema. ap (λ x. rows_in x key) (same s schema) ∙ is)

-- where there is a catalogue a schema is known
pub some_schema : (catalog : Option Catalog) → IsTrue (is_some catalog) → IsTrue (is_some (schema_known catalog))
some_schema None there = absurd (cc there)
some_schema (Some c) there = refl

-- what holds holds where a call answers
pub given_ok : {T E : Type 0} (r : Result T E) (P : Type 0) → P → OnOk r P
given_ok (Ok x) P is = is
given_ok (Err e) P is = tt
