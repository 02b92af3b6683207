-- The scope in which the names of a statement are looked for.
use Rattle.std.specs.Prelude.{ℕ, List}
use Rattle.calculus.specs.Database.{Db}
use Rattle.quel_meaning.specs.Ranges.{Ranges}
use Rattle.quel_meaning.specs.Scope.{Scope}

-- the scope of this database, this user and these range variables
abbrev pub scope_of : Db → List ℕ → Ranges → Scope
scope_of db user ranges = record { db = db; user = user; ranges = ranges }
