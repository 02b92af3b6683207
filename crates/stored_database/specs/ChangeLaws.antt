-- What a change of a database does to its catalogue.
use Rattle.std.specs.Prelude.{◌≡◌, ◌==◌, nat_eq, Bool, true, false, map}
use Rattle.calculus.specs.declared.query.RelKey.{RelKey}
use Rattle.calculus.specs.declared.change.DbChange.{DbChange}
use Rattle.calculus.specs.declared.change.DbChange.TheVariants as change
use Rattle.calculus.specs.Change.{laid, IsLawful}
use Rattle.calculus.specs.Database.{Db, entries, is_there, is_relation}
use Rattle.calculus.specs.IsDatabase.{IsDatabase}
use Rattle.calculus.specs.Keys.{same_key}
use Rattle.calculus.specs.Lists.{differ_by}
use Rattle.stored_database.specs.Printed.{Files, printed}
use Rattle.stored_database.specs.After.{changed, AreChanges}
use Rattle.stored_database.specs.Moves.{going, coming}

-- the change may give this relation more or fewer pages
unfoldable pub resizes : DbChange → RelKey → Bool
resizes (change.Rows rel remove add) key = same_key key rel
resizes (change.Create info rows) key = false
resizes (change.Destroy rels) key = false
resizes (change.Modify rel to keys) key = same_key key rel
resizes (change.Index base name keys) key = false
resizes (change.View info query) key = false
resizes (change.Permit rel permit) key = false
resizes (change.Rule rel rule) key = false
resizes (change.DropPermits rel numbers) key = false
resizes (change.DropRules rel numbers) key = false

-- Files agree on what stays: what is there before and after a change keeps its file, and a relation that the change doesn't resize keeps the number of its pages.
pub record Agree (db : Db) (made : DbChange) (f after : Files) : Type 0 where
  pub file_stays : (key : RelKey) → is_there db key ≡ true → is_there (laid db made) key ≡ true → after.file key ≡ f.file key
  pub used_stays : (key : RelKey) → is_relation db key ≡ true → is_relation (laid db made) key ≡ true → resizes made key ≡ false → after.used key ≡ f.used key

-- relations, views and indexes have files that differ
abbrev pub FilesDiffer : Db → Files → Type 0
FilesDiffer db f = differ_by nat_eq (map (λ i. f.file i.key) (entries db)) ≡ true

-- The catalogue after a lawful change is the one before without the rows that go and with those that come.
abbrev pub ChangesTheCatalogue : DbChange → Type 0
ChangesTheCatalogue made = (db : Db) (f after : Files)
    → IsDatabase db → IsLawful db made → FilesDiffer db f → FilesDiffer (laid db made) after → Agree db made f after
    → printed (laid db made) after ≡ changed (going f after db made) (coming f after db made) (printed db f)

-- And what goes is there, and what comes is new.
abbrev pub ChangesRows : DbChange → Type 0
ChangesRows made = (db : Db) (f after : Files)
    → IsDatabase db → IsLawful db made → FilesDiffer db f → FilesDiffer (laid db made) after → Agree db made f after
    → AreChanges (going f after db made) (coming f after db made) (printed db f)

-- What a change makes has a file that nothing else has afterwards.
abbrev pub NewFilesDiffer : Db → DbChange → Files → Type 0
NewFilesDiffer db made after = (key other : RelKey)
    → is_there db key ≡ false → is_there (laid db made) key ≡ true → is_there (laid db made) other ≡ true → same_key key other ≡ false → (after.file key == after.file other) ≡ false

-- Where what is new has a file of its own and the files agree on what stays, they differ afterwards as they did before.
abbrev pub FilesDifferAgain : DbChange → Type 0
FilesDifferAgain made = (db : Db) (f after : Files)
    → IsDatabase (laid db made) → FilesDiffer db f → Agree db made f after → NewFilesDiffer db made after → FilesDiffer (laid db made) after
