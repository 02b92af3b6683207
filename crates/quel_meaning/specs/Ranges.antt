-- Range variables: what each ranges over.
use Rattle.std.specs.Prelude.{ℕ, List, [], ◌∷◌, Option, Some, None, if◌then◌else◌}
use Rattle.std.specs.Str.{bytes_eq}
use Rattle.calculus.specs.declared.query.RelKey.{RelKey}

-- the range variables in the order in which they were first declared, each with what it ranges over
abbrev pub Ranges : Type 0
Ranges = List (List ℕ × RelKey)

-- what a variable ranges over; none where it was never declared
unfoldable pub range_of : Ranges → List ℕ → Option RelKey
range_of [] var = None
range_of (r ∷ ranges) var = if bytes_eq r.0 var then Some r.1 else range_of ranges var

-- the ranges where this variable ranges over this, whatever it ranged over before
unfoldable pub declared : Ranges → List ℕ → RelKey → Ranges
declared [] var key = (var, key) ∷ []
declared (r ∷ ranges) var key = if bytes_eq r.0 var then (var, key) ∷ ranges else r ∷ declared ranges var key
