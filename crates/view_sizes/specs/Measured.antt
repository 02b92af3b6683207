-- What the measure of a variable says, and what is left of it where numbers stop at the greatest of 64 bits.
use Rattle.std.specs.Prelude.{ℕ, ◌-◌, ◌^◌, min, map}
use Rattle.calculus.specs.Sizes.{Measure}
use Rattle.view_sizes.specs.declared.sizes.Measure.{Measure as Held}

-- the measure that is held
abbrev pub held : Held → Measure
held m = record { variables = m.variables; attrs = m.attrs.items; qual = m.qual }

-- the number, or the greatest of 64 bits where that is less
abbrev pub stopped : ℕ → ℕ
stopped n = min n (2 ^ 64 - 1)

-- the measure, each of its numbers stopped
abbrev pub stopped_measure : Measure → Measure
stopped_measure m = record { variables = stopped m.variables; attrs = map stopped m.attrs; qual = stopped m.qual }
