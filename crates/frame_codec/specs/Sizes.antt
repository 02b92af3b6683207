-- How what stands at the front of bytes lies in them.
use Rattle.std.specs.Prelude.{ℕ, ◌+◌, ◌<◌, ◌≤◌}
use Rattle.frame_codec.specs.declared.fronts.Front.{Front}
use Rattle.frame_codec.specs.declared.fronts.Front.TheVariants.{Whole, Part, BadKind, TooLong}

-- a whole frame lies in so many bytes, and has the size of one; a length that no frame has lies in them
abbrev pub FitsInto : Front → ℕ → Type 0
FitsInto (Whole kind size) n = (3 + size ≤ n) × (size ≤ 4096)
FitsInto Part n = Unit {0}
FitsInto BadKind n = Unit {0}
FitsInto TooLong n = 3 ≤ n

-- a whole frame has more than so many bytes
abbrev pub Outgrows : Front → ℕ → Type 0
Outgrows (Whole kind size) n = n < 3 + size
Outgrows Part n = Unit {0}
Outgrows BadKind n = Unit {0}
Outgrows TooLong n = Unit {0}
