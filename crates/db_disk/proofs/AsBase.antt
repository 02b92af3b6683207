-- What a database on a disk answers as a base.
use Rattle.std.proofs.Common.{◌≡◌, refl, sym, ap, subst, ◌∙◌, Bool, IsTrue, Option, Some, None, Result, Ok, Err, OnOk}
use Rattle.std.specs.Prelude.{is_some}
use Rattle.std.proofs.lemmas.Option.{none-some, same_Some}
use Rattle.calculus.specs.declared.change.DbChange.{DbChange}
use Rattle.calculus.specs.Change.{laid}
use Rattle.calculus.specs.Database.{Db}
use Rattle.calculus.specs.Schema.{schema_of}
use Rattle.disk_model.specs.Disk.{Image}
use Rattle.disk_model.specs.declared.disk.Disk.{Ghosts}
use Rattle.catalog.specs.declared.catalog.Catalog.{Catalog}
use Rattle.catalog.proofs.Steps.{schema_again}
use Rattle.db_disk.specs.Held.{database_by}
use Rattle.db_disk.specs.Known.{IsKnown, schema_known}
use Rattle.db_disk.specs.Shown.{db_of, is_restored, known_by, known_in, schema_in}
use Rattle.db_disk.specs.declared.base.DbDisk.{DbDisk}
use Rattle.db_disk.proofs.Changes.{on_ok_into}
use Rattle.db_disk.proofs.Holding.{known_some}
use Rattle.db_disk.proofs.Knowing.{schema_held, there_open}

-- what holds of the database that is known, and of the schema that was read, holds of what is known
by_known : (known schema : Option Db) (s : Db) (P : Db → Type 0) → ((db : Db) → known ≡ Some db → P db) → ((s : Db) → schema ≡ Some s → P s) → known_by known schema ≡ Some s → P s
by_known (Some db) schema s P each read is = each s is
by_known None schema s P each read is = read s is

some_known : (known schema : Option Db) → IsTrue (is_some schema) → IsTrue (is_some (known_by known schema))
some_known (Some db) schema there = refl
some_known None schema there = there

stays_by : (known before now : Option Db) (s : Db) → ((s : Db) → before ≡ Some s → now ≡ Some s) → known_by known before ≡ Some s → known_by known now ≡ Some s
stays_by (Some db) before now s keeps is = is
stays_by None before now s keeps is = keeps s is

-- where the schema was forgotten nothing is known but the database that is known
pub forgotten : (known schema : Option Db) (s : Db) → schema ≡ None → known_by known schema ≡ Some s → known ≡ Some s
forgotten (Some db) schema s none is = is
forgotten None schema s none is = absurd (none-some s (sym none ∙ is))

module _ {D : Type 0} {g : Ghosts D} (old new : DbDisk D g) (kept : db_of new ≡ db_of old) (keeps : (s : Db) → schema_in old ≡ Some s → schema_in new ≡ Some s) where
  -- what was known is known
  pub stays : (s : Db) → known_in old ≡ Some s → known_in new ≡ Some s
  stays s is = subst (λ (known : Option Db). known_by known (schema_in new) ≡ Some s) (sym kept) (stays_by (db_of old) (schema_in old) (schema_in new) s keeps is)

  -- what is known of the database, and by the schema that was read, is told by what was known before
  pub known_before : (P : Db → Type 0) → ((db : Db) → db_of old ≡ Some db → P db) → ((s : Db) → schema_in new ≡ Some s → P s) → (s : Db) → known_in old ≡ Some s → P s
  known_before P known read s is = by_known (db_of old) (schema_in old) s P known (λ s is. read s (keeps s is)) is

  -- and by what is known afterwards
  pub known_after : (P : Db → Type 0) → ((db : Db) → db_of old ≡ Some db → P db) → ((s : Db) → schema_in new ≡ Some s → P s) → (s : Db) → known_in new ≡ Some s → P s
  known_after P known read s is = by_known (db_of new) (schema_in new) s P (λ db is. known db (sym kept ∙ is)) read is

module _ {D : Type 0} {g : Ghosts D} (now : DbDisk D g) {T E : Type 0} (result : Result T E) (there : OnOk result (IsTrue (is_some (schema_in now)))) where
  -- where a schema was read one is known
  pub fixed : OnOk result (IsTrue (is_some (known_in now)))
  fixed = on_ok_into result _ _ (λ is. some_known (db_of now) (schema_in now) is) there

  -- and the disk was restored
  pub ready : OnOk result (IsTrue (is_restored now))
  ready = on_ok_into result _ _ (λ is. there_open now.catalog (IsTrue (is_restored now)) is now.opened) there

-- the schema that was read is that of the database that is known
pub own_schema : (is_known : Bool) (m : Image) (catalog : Option Catalog) → (IsTrue is_known → IsKnown m catalog) → (db s : Db) → database_by is_known m ≡ Some db → schema_known catalog ≡ Some s → s ≡ schema_of db
own_schema is_known m catalog knows db s known is =
    let t = known_some is_known m db known in
    same_Some s (schema_of db) (sym is ∙ schema_held m catalog db (knows t.0) t.1 (ap is_some is))

laid_known : (made : DbChange) (after later : Option Db) (s now : Db) → after ≡ Some (laid s made) → known_by after later ≡ Some now → schema_of now ≡ schema_of (laid s made)
laid_known made None later s now is then = absurd (none-some (laid s made) is)
laid_known made (Some a) later s now is then = ap schema_of (sym (same_Some a now then) ∙ same_Some a (laid s made) is)

laid_read : (made : DbChange) (after later : Option Db) (s now : Db) → later ≡ Some (schema_of (laid s made)) → ((db s : Db) → after ≡ Some db → later ≡ Some s → s ≡ schema_of db)
    → known_by after later ≡ Some now → schema_of now ≡ schema_of (laid s made)
laid_read made None later s now is own then = ap schema_of (same_Some now (schema_of (laid s made)) (sym then ∙ is)) ∙ schema_again (laid s made)
laid_read made (Some a) later s now is own then = ap schema_of (sym (same_Some a now then)) ∙ sym (own a (schema_of (laid s made)) refl is)

-- a change that was applied to the database that was known, or to the schema that was read, is applied to what was known
pub known_laid : {T E : Type 0} (made : DbChange) (before schema after later : Option Db) (s now : Db) (result : Result T E)
    → ((db : Db) → before ≡ Some db → OnOk result (after ≡ Some (laid db made))) → ((s : Db) → schema ≡ Some s → OnOk result (later ≡ Some (schema_of (laid s made))))
    → ((db s : Db) → after ≡ Some db → later ≡ Some s → s ≡ schema_of db) → known_by before schema ≡ Some s → known_by after later ≡ Some now
    → OnOk result (schema_of now ≡ schema_of (laid s made))
known_laid made before schema after later s now (Err e) known read own knows then = tt
known_laid made (Some db) schema after later s now (Ok x) known read own knows then = laid_known made after later s now (known s knows) then
known_laid made None schema after later s now (Ok x) known read own knows then = laid_read made after later s now (read s knows) own then
