-- What was found of views while a query is looked through is what they are.
use Rattle.std.specs.Prelude.{◌≡◌, ℕ, true, List, All, is_some}
use Rattle.calculus.specs.declared.query.RelKey.{RelKey}
use Rattle.calculus.specs.Database.{Db}
use Rattle.calculus.specs.Sizes.{level_within, measure_within}
use Rattle.view_sizes.specs.declared.sizes.Measure.{Measure as Held}
use Rattle.view_sizes.specs.Measured.{held, stopped_measure}

-- what is remembered of each key and so many levels is its measure through these, stopped
abbrev pub AreMeasured : Db → List ((RelKey × ℕ) × Held) → Type 0
AreMeasured db found = All (λ e. held e.1 ≡ stopped_measure (measure_within e.0.1 db e.0.0)) found

-- what stands under each of these keys has a level, at most the number beside it
abbrev pub HaveLevels : Db → List (RelKey × ℕ) → Type 0
HaveLevels db found = All (λ e. is_some (level_within e.1 db e.0) ≡ true) found
