-- What a catalogue knows goes on.
use Rattle.std.proofs.Common.{◌≡◌, refl, sym, ap, subst, ◌∙◌, ◌<◌, Bool, true, false, IsTrue, List, [], ◌∷◌, map, Option, Some, None, Result, Ok, Err, OnOk}
use Rattle.std.specs.Prelude.{option_map, is_some}
use Rattle.std.proofs.lemmas.Option.{same_Some}
use Rattle.calculus.specs.declared.query.RelKey.{RelKey}
use mathlib.Core.Logic.{∥∥₁_map}
use Rattle.calculus.specs.Database.{Db, Relation, is_relation}
use Rattle.calculus.specs.Rows.{Row}
use Rattle.calculus.specs.Schema.{bare, schema_of}
use Rattle.calculus.specs.Stored.{rows_at}
use Rattle.disk_model.specs.Disk.{Image}
use Rattle.disk_model.specs.declared.disk.Addr.{Addr}
use Rattle.batch_file.specs.Redone.{kept}
use Rattle.plain_base.specs.Shown.{database_of}
use Rattle.catalog_read.specs.Parts.{index_owners_agree}
use Rattle.catalog_laws.specs.Loaded.{loaded_part}
use Rattle.page_chain.specs.Pages.{pages_of}
use Rattle.stored_database.specs.Catalogue.{catalogue_in}
use Rattle.stored_database.specs.Printed.{HasFiles, printed}
use Rattle.catalog_moves.specs.Bases.{IndexBases}
use Rattle.catalog_moves.specs.Files.{files_of, is_in}
use Rattle.catalog_moves.specs.declared.files.FileTable.{FileTable}
use Rattle.catalog_moves.specs.declared.key_set.KeySet.{KeySet}
use Rattle.catalog_pages.specs.Ends.{AreEnds}
use Rattle.catalog_pages.specs.declared.writing.Ends.{Ends}
use Rattle.catalog.specs.Knows.{Knows}
use Rattle.catalog.proofs.Steps.{schema_again}
use Rattle.catalog.specs.declared.catalog.Catalog.{Catalog}
use Rattle.db_disk.specs.Held.{administrator, held}
use Rattle.db_disk.specs.Known.{IsKnown, LiesFor, SameKnown, known_part, schema_known}
use Rattle.db_disk.proofs.KnowsProp.{untruncated}

bare_part : (has : RelKey → Bool) (rs : List Relation) → map bare (map (λ r. elim (has r.info.key) [ true ↦ r | false ↦ bare r ]) rs) ≡ map bare rs
bare_part has [] = refl
bare_part has (r ∷ rs) = λ i. once (has r.info.key) i ∷ bare_part has rs i
  where
    once : (b : Bool) → bare (elim b [ true ↦ r | false ↦ bare r ]) ≡ bare r
    once true = refl
    once false = refl

-- a part of a database has its schema
pub part_schema : (has : RelKey → Bool) (db : Db) → schema_of (loaded_part has db) ≡ schema_of db
unfolding schema_of loaded_part
part_schema has db = λ i. record db { relations = bare_part has db.relations i }

pub knows_schema : (c : Catalog) (m : Image) (db : Db) → Knows c m db → schema_of (database_of c.plain) ≡ schema_of db
knows_schema c m db knows = ap schema_of knows.plain ∙ part_schema (is_in c.loaded) db

-- the schema that is known is that of the database that is held
pub schema_held : (m : Image) (catalog : Option Catalog) (db : Db) → IsKnown m catalog → held m ≡ Some db → IsTrue (is_some (schema_known catalog)) → schema_known catalog ≡ Some (schema_of db)
schema_held m None db is holds there = absurd (cc there)
schema_held m (Some c) db is holds there = ap Some (knows_schema c (kept m) db (untruncated (is.each c db refl holds)))

abbrev Part : Type 0
Part = Db × KeySet × FileTable × Ends

-- what a catalogue with this part knows
record Knowing (p : Part) (m : Image) (db : Db) : Type 0 where
  plain : p.0 ≡ loaded_part (is_in p.1) db
  catalogue : catalogue_in (pages_of m) ≡ Some (printed db (files_of p.2))
  has : HasFiles db (pages_of m) (files_of p.2)
  ends : AreEnds m p.3
  bases : IndexBases p.2 db

pub same_knows : (a b : Catalog) (m : Image) (db : Db) → known_part b ≡ known_part a → Knows a m db → Knows b m db
same_knows a b m db same knows =
    let k = subst (λ (p : Part). Knowing p m db) (sym same) record { plain = knows.plain; catalogue = knows.catalogue; has = knows.has; ends = knows.ends; bases = knows.bases } in
    record { plain = k.plain; catalogue = k.catalogue; has = k.has; ends = k.ends; owners = knows.owners; bases = k.bases }

-- How what a catalogue with this part knows lies on pages.
record Lying (p : Part) (m : Image) : Type 0 where
  over : Image
  first : (b : Addr) → b.file < 16 → over b ≡ m b
  read : (key : RelKey) → is_relation p.0 key ≡ true → is_in p.1 key ≡ true → pages_of over ((files_of p.2).file key) ≡ pages_of m ((files_of p.2).file key)
  knowing : Knowing p over p.0
  owners : index_owners_agree p.0 ≡ true
  named : administrator m ≡ Some p.0.dba

pub same_lies : (a b : Catalog) (m : Image) → known_part b ≡ known_part a → LiesFor a m → LiesFor b m
same_lies a b m same l =
    let k = l.lies.knows in
    let p = subst (λ (p : Part). Lying p m) (sym same) record {
      over = l.lies.over;
      first = l.lies.first;
      read = l.lies.read;
      knowing = record { plain = k.plain; catalogue = k.catalogue; has = k.has; ends = k.ends; bases = k.bases };
      owners = k.owners;
      named = l.named;
    } in
    record {
      lies = record {
        over = p.over;
        first = p.first;
        read = p.read;
        knows = record { plain = p.knowing.plain; catalogue = p.knowing.catalogue; has = p.knowing.has; ends = p.knowing.ends; owners = p.owners; bases = p.knowing.bases };
      };
      named = p.named;
    }

from_same : (a : Option Catalog) (c : Catalog) → Some (known_part c) ≡ option_map known_part a → (b : Catalog) × (a ≡ Some b) × (known_part c ≡ known_part b)
from_same None c same = absurd (cc same)
from_same (Some b) c same = (b, refl, same_Some (known_part c) (known_part b) same)

pub still_known : (m n : Image) (a b : Option Catalog) → n ≡ m → IsKnown m a → SameKnown a b → IsKnown n b
still_known m n a b image is same = subst (λ (m : Image). IsKnown m b) (sym image) record {
  each = λ c db is_c holds.
      let before = from_same a c (sym (ap (option_map known_part) is_c) ∙ same) in
      ∣ same_knows before.0 c (kept m) db before.2 (untruncated (is.each before.0 db before.1 holds)) ∣₁;
  lies = λ c is_c.
      let before = from_same a c (sym (ap (option_map known_part) is_c) ∙ same) in
      ∥∥₁_map (is.lies before.0 before.1) (λ l. same_lies before.0 c (kept m) before.2 l);
}

pub same_schema : (a b : Option Catalog) → SameKnown a b → schema_known b ≡ schema_known a
same_schema None None same = refl
same_schema None (Some c) same = absurd (cc same)
same_schema (Some c) None same = absurd (cc same)
same_schema (Some a) (Some b) same = ap (λ (p : Part). Some (schema_of p.0)) (same_Some (known_part b) (known_part a) same)

-- what is known as a schema is one
pub known_is_schema : (catalog : Option Catalog) (s : Db) → schema_known catalog ≡ Some s → schema_of s ≡ s
known_is_schema None s is = absurd (cc is)
known_is_schema (Some c) s is = let e = same_Some (schema_of (database_of c.plain)) s is in ap schema_of (sym e) ∙ schema_again (database_of c.plain) ∙ e

-- nothing is to be known of none
pub none_known : (m : Image) → IsKnown m None
none_known m = record { each = λ c db is holds. absurd (cc is); lies = λ c is. absurd (cc is) }

pub one_known : (m : Image) (c : Catalog) → ((db : Db) → held m ≡ Some db → Knows c (kept m) db) → ∥ LiesFor c (kept m) ∥₁ → IsKnown m (Some c)
one_known m c knows lies = record {
  each = λ b db is holds. subst (λ (c : Catalog). ∥ Knows c (kept m) db ∥₁) (same_Some c b is) ∣ knows db holds ∣₁;
  lies = λ b is. subst (λ (c : Catalog). ∥ LiesFor c (kept m) ∥₁) (same_Some c b is) lies;
}

-- where a call answers, what is known of the catalogue is known of each that is there
pub on_some : {T E : Type 0} (result : Result T E) (a : Catalog) (P : Catalog → Type 0) → OnOk result (P a) → OnOk result ((c : Catalog) → Some a ≡ Some c → P c)
on_some (Ok x) a P is = λ c same. subst P (same_Some a c same) is
on_some (Err e) a P is = tt

pub there_open : (catalog : Option Catalog) (P : Type 0) → IsTrue (is_some (schema_known catalog)) → ((c : Catalog) → catalog ≡ Some c → P) → P
there_open None P there each = absurd (cc there)
there_open (Some c) P there each = each c refl

pub there_is_open : (catalog : Option Catalog) (P : Type 0) → IsTrue (is_some catalog) → ((c : Catalog) → catalog ≡ Some c → P) → P
there_is_open None P there each = absurd (cc there)
there_is_open (Some c) P there each = each c refl

-- what is told by the rows in memory is told by those of the database
pub from_rows : (catalog : Option Catalog) (key : RelKey) (db : Db) (R : List Row → Type 0) → IsTrue (is_some catalog) → ((c : Catalog) → catalog ≡ Some c → rows_at (database_of c.plain) key ≡ rows_at db key)
    → ((c : Catalog) → catalog ≡ Some c → R (rows_at (database_of c.plain) key)) → R (rows_at db key)
from_rows None key db R there same each = absurd (cc there)
from_rows (Some c) key db R there same each = subst R (same c refl) (each c refl)
