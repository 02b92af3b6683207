-- What a copy into a file leaves on the shelf.
use Rattle.std.specs.Prelude.{◌≡◌, ℕ, List, Option, Some, Result, Ok, Err}
use Rattle.calculus.specs.declared.query.RelKey.{RelKey}
use Rattle.calculus.specs.declared.reply.Refusal.{Refusal}
use Rattle.calculus.specs.declared.request.CopyCol.{CopyCol}
use Rattle.calculus.specs.Database.{Db}
use Rattle.fault_io.specs.Files.{Files, stored}
use Rattle.fault_io.specs.Shelves.{MayHaveStored}
use Rattle.quel_meaning.specs.Copying.{copied_into, refusal, bad_row}
use Rattle.copy_util.specs.declared.fault.CopyFault.{CopyFault}
use Rattle.copy_util.specs.declared.fault.CopyFault.TheVariants.{No, BadRow, NoFile, Shelf, Base, OutOfMemory}

-- where these bytes, or this refusal, come of the rows: with Ok the bytes are stored as this file; with a refusal it is this one, and the files are as they were; so they are after a fault of the database or want of memory; after one of the shelf they are as they were, or the bytes are stored. That there is no file refuses nothing here
abbrev pub IsStored : Result (List ℕ) Refusal → List ℕ → Files → Option Files → Result (Unit {0}) CopyFault → Type 0
IsStored made file old new (Ok done) = (bytes : List ℕ) × (made ≡ Ok bytes) × (new ≡ Some (stored old file bytes))
IsStored made file old new (Err (No number)) = (made ≡ Err (refusal number)) × (new ≡ Some old)
IsStored made file old new (Err (BadRow row)) = (made ≡ Err (bad_row row)) × (new ≡ Some old)
IsStored made file old new (Err NoFile) = ⊥
IsStored made file old new (Err Shelf) = (bytes : List ℕ) × (made ≡ Ok bytes) × MayHaveStored file bytes old new
IsStored made file old new (Err (Base fault)) = new ≡ Some old
IsStored made file old new (Err OutOfMemory) = new ≡ Some old

-- of some database these bytes are the file that a copy of the relation makes for the user
abbrev pub MayBeCopied : List ℕ → RelKey → List CopyCol → List ℕ → Type 0
MayBeCopied user rel columns bytes = (db : Db) × (copied_into db user rel columns ≡ Ok bytes)

-- whatever is known of the database: with Ok bytes are stored as this file that may be copied so; after a fault of the shelf the files are as they were, or such bytes are stored; after anything else they are as they were
abbrev pub SparesFiles : List ℕ → RelKey → List CopyCol → List ℕ → Files → Option Files → Result (Unit {0}) CopyFault → Type 0
SparesFiles user rel columns file old new (Ok done) = (bytes : List ℕ) × MayBeCopied user rel columns bytes × (new ≡ Some (stored old file bytes))
SparesFiles user rel columns file old new (Err (No number)) = new ≡ Some old
SparesFiles user rel columns file old new (Err (BadRow row)) = new ≡ Some old
SparesFiles user rel columns file old new (Err NoFile) = new ≡ Some old
SparesFiles user rel columns file old new (Err Shelf) = (bytes : List ℕ) × MayBeCopied user rel columns bytes × MayHaveStored file bytes old new
SparesFiles user rel columns file old new (Err (Base fault)) = new ≡ Some old
SparesFiles user rel columns file old new (Err OutOfMemory) = new ≡ Some old
