-- The rows that are left from a place on.
use Rattle.std.specs.Prelude.{ℕ, ◌+◌, ◌*◌, List, drop}
use Rattle.calculus.specs.declared.probe.Place.{Place}
use Rattle.calculus.specs.declared.query.RelKey.{RelKey}
use Rattle.calculus.specs.Database.{Db}
use Rattle.calculus.specs.Rows.{Row}
use Rattle.calculus.specs.Stored.{rows_at}

-- how many rows lie before a place
abbrev pub rows_before : Place → ℕ
rows_before at = at.page * 65536 + at.line

-- the rows under a key, ascending, from a place on
abbrev pub rows_from : Db → RelKey → Place → List Row
rows_from db key at = drop (rows_before at) (rows_at db key)
