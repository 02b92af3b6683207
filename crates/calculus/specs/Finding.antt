-- Which relation, view or catalogue a user means by a name.
use Rattle.std.specs.Prelude.{ℕ, List, Option, Some, None}
use Rattle.calculus.specs.declared.schema.RelInfo.{RelInfo}
use Rattle.calculus.specs.Keys.{key_of}
use Rattle.calculus.specs.Database.{Db}
use Rattle.calculus.specs.Stored.{info_at}

-- the user's own relation or view of this name, else the administrator's, or the catalogue, which stands under the administrator's key; an index has no name here
unfoldable pub found : Db → List ℕ → List ℕ → Option RelInfo
found db user name = elim (info_at db (key_of user name)) [ Some own ↦ Some own | None ↦ info_at db (key_of db.dba name) ]
