-- What happens to a catalogue where what stands under a key gets another file, or another number of pages.
use Rattle.std.specs.Prelude.{◌≡◌, false, [], ◌∷◌}
use Rattle.calculus.specs.declared.query.RelKey.{RelKey}
use Rattle.calculus.specs.Database.{Db}
use Rattle.calculus.specs.IsDatabase.{IsDatabase}
use Rattle.calculus.specs.Keys.{same_key}
use Rattle.stored_database.specs.Printed.{Files, printed}
use Rattle.stored_database.specs.After.{changed, AreChanges}
use Rattle.stored_database.specs.ChangeLaws.{FilesDiffer}
use Rattle.stored_database.specs.Moves.{destroyed, rows_of}

-- The files say the same of all but what stands under this key.
pub record DifferAt (key : RelKey) (f g : Files) : Type 0 where
  pub file : (k : RelKey) → same_key k key ≡ false → g.file k ≡ f.file k
  pub used : (k : RelKey) → same_key k key ≡ false → g.used k ≡ f.used k

-- Where what stands under a key gets another file, the catalogue is the one before without the rows of what would be destroyed with that key, and with the rows that the same has by the new files.
abbrev pub RenumbersTheCatalogue : Type 0
RenumbersTheCatalogue = (key : RelKey) (db : Db) (f g : Files)
    → IsDatabase db → FilesDiffer db f → FilesDiffer db g → DifferAt key f g
    → printed db g ≡ changed (rows_of f (destroyed (key ∷ []) db)) (rows_of g (destroyed (key ∷ []) db)) (printed db f)

-- And what goes is there, and what comes is new.
abbrev pub RenumbersRows : Type 0
RenumbersRows = (key : RelKey) (db : Db) (f g : Files)
    → IsDatabase db → FilesDiffer db f → FilesDiffer db g → DifferAt key f g
    → AreChanges (rows_of f (destroyed (key ∷ []) db)) (rows_of g (destroyed (key ∷ []) db)) (printed db f)
