-- The change that the pairs of an update make.
use Rattle.std.specs.Prelude.{◌≡◌, Bool, true, false, List, []}
use Rattle.calculus.specs.declared.change.Pair.{Pair}
use Rattle.calculus.specs.declared.change.DbChange.{DbChange}
use Rattle.calculus.specs.declared.change.DbChange.TheVariants.{Create}
use Rattle.calculus.specs.declared.request.Update.{Update}
use Rattle.calculus.specs.declared.request.UpdateOp.{UpdateOp}
use Rattle.calculus.specs.declared.request.UpdateOp.TheVariants.{Append, Replace, Delete, Into}
use Rattle.calculus.specs.Database.{Db}
use Rattle.calculus.specs.Replacement.{after, made_info, rows_change}
use Rattle.calculus.specs.Stored.{rows_at}

-- to make a relation of an answer
abbrev pub is_into : UpdateOp → Bool
is_into Append = false
is_into Replace = false
is_into Delete = false
is_into Into = true

-- what the update makes has no rows before
abbrev pub MakesNew : Db → Update → Type 0
MakesNew db u = u.op ≡ Into → rows_at db u.rel ≡ []

-- the change that these pairs make: a new relation with the set of its rows, else the rows that go and those that come
abbrev pub change_by : Db → Update → List Pair → DbChange
change_by db u ps = elim (is_into u.op) [
  | true ↦ Create (made_info u) (after (rows_at db u.rel) ps)
  | false ↦ rows_change u (rows_at db u.rel) (after (rows_at db u.rel) ps)
]
