-- How the catalogue follows a change, where not all rows of the database are known.
use Rattle.std.specs.Prelude.{◌≡◌, true, ℕ}
use Rattle.calculus.specs.declared.query.RelKey.{RelKey}
use Rattle.calculus.specs.declared.change.DbChange.{DbChange}
use Rattle.calculus.specs.declared.change.DbChange.TheVariants as change
use Rattle.calculus.specs.Change.{laid, IsLawful}
use Rattle.calculus.specs.Database.{Db, is_there}
use Rattle.calculus.specs.IsDatabase.{IsDatabase}
use Rattle.calculus.specs.Schema.{schema_of}
use Rattle.page_chain.specs.Pages.{Pages}
use Rattle.stored_database.specs.Catalogue.{IsCatalogue}
use Rattle.stored_database.specs.Printed.{Files, HasFiles, MayHave, printed}
use Rattle.stored_database.specs.After.{AreChanges, changed}
use Rattle.stored_database.specs.ChangeLaws.{Agree, FilesDiffer}
use Rattle.stored_database.specs.Moves.{going, coming}
use Rattle.catalog_moves.specs.Moves.{HavePlaces}

-- The second files say of all that is there the same as the first.
pub record SayTheSame (db : Db) (f g : Files) : Type 0 where
  pub file : (key : RelKey) → is_there db key ≡ true → g.file key ≡ f.file key
  pub used : (key : RelKey) → is_there db key ≡ true → g.used key ≡ f.used key

-- The files that are kept after a change are those after it; where things go with it, of what is there still.
unfoldable pub AreKept : DbChange → Db → Files → Files → Type 0
AreKept (change.Rows rel remove add) db after kept = kept ≡ after
AreKept (change.Create info rows) db after kept = kept ≡ after
AreKept (change.Destroy rels) db after kept = SayTheSame (laid db (change.Destroy rels)) after kept
AreKept (change.Modify rel to keys) db after kept = SayTheSame (laid db (change.Modify rel to keys)) after kept
AreKept (change.Index base name keys) db after kept = kept ≡ after
AreKept (change.View info query) db after kept = kept ≡ after
AreKept (change.Permit rel permit) db after kept = kept ≡ after
AreKept (change.Rule rel rule) db after kept = kept ≡ after
AreKept (change.DropPermits rel numbers) db after kept = kept ≡ after
AreKept (change.DropRules rel numbers) db after kept = kept ≡ after

-- A database and a part of it that differ in rows of relations alone, and so after a lawful change of both.
pub record SameSchemas (db part : Db) (made : DbChange) : Type 0 where
  pub before : schema_of part ≡ schema_of db
  pub after : schema_of (laid part made) ≡ schema_of (laid db made)
  pub is : IsDatabase part
  pub lawful : IsLawful part made
  pub leaves : IsDatabase (laid db made)

-- The rows that go and come change the catalogue of a database to that of the database after the change.
pub record Follows (db part : Db) (made : DbChange) (f after kept : Files) (pages : ℕ → Pages) : Type 0 where
  pub changes : AreChanges (going f after part made) (coming f after part made) (printed db f)
  pub stands : IsCatalogue (changed (going f after part made) (coming f after part made) (printed db f))
  pub is : changed (going f after part made) (coming f after part made) (printed db f) ≡ printed (laid db made) kept
  pub has : HasFiles (laid db made) pages kept

-- Whatever lies on the pages of relations, the rows that go and come change the catalogue of a database to that of the database after the change.
pub record Prints (db part : Db) (made : DbChange) (f after kept : Files) : Type 0 where
  pub changes : AreChanges (going f after part made) (coming f after part made) (printed db f)
  pub stands : IsCatalogue (changed (going f after part made) (coming f after part made) (printed db f))
  pub is : changed (going f after part made) (coming f after part made) (printed db f) ≡ printed (laid db made) kept
  pub may : MayHave (laid db made) kept

-- So it is with each change.
abbrev pub CatalogueFollows : DbChange → Type 0
CatalogueFollows made = (db part : Db) (f after kept : Files) (pages : ℕ → Pages) → SameSchemas db part made → FilesDiffer db f → Agree part made f after → AreKept made part after kept
    → IsCatalogue (printed db f) → HavePlaces (coming f after part made) → HasFiles (laid db made) pages after → Follows db part made f after kept pages
