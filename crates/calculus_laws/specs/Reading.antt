-- What is read: rows that are kept, and databases that have the same of them.
use Rattle.std.specs.Prelude.{◌≡◌, ℕ, List, Some, slice_get}
use Rattle.std.specs.List.{Contains}
use Rattle.calculus.specs.declared.query.RelKey.{RelKey}
use Rattle.calculus.specs.declared.request.Update.{Update}
use Rattle.calculus.specs.Database.{Db, Relation}
use Rattle.calculus.specs.Stored.{Kept, range_at, rows_at}
use Rattle.calculus.specs.Rights.{Right}
use Rattle.calculus.specs.QueryParts.{vars_of}
use Rattle.calculus.specs.Assignments.{changed}

-- rows are kept under the key: those of a base relation or of a catalogue that is there
abbrev pub IsKept : Db → RelKey → Type 0
IsKept db key = (relation : Relation) × (range_at db key ≡ Some (Kept relation))

-- the two databases have the same rows under each of these keys
abbrev pub HaveSameRows : Db → Db → List RelKey → Type 0
HaveSameRows db other keys = (key : RelKey) → Contains keys key → rows_at db key ≡ rows_at other key

-- the variable whose rows the update replaces or deletes, if there is one, ranges over the relation that it changes
abbrev pub IsOverItsRelation : Update → Type 0
IsOverItsRelation u = (c : ℕ × Right) (key : RelKey) → changed u ≡ Some c → slice_get (vars_of u.query) c.0 ≡ Some key → key ≡ u.rel
