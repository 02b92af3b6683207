-- Variables further on, as places of a query allow it.
use Rattle.std.specs.Prelude.{ℕ, ◌+◌, min}
use Rattle.calculus.specs.declared.query.QTerm.{Attr}
use Rattle.view_text.specs.Replaced.{Substitution}

-- the variables stand so many places further on, but none behind the last place that there is
abbrev pub further_at_most : ℕ → Substitution
further_at_most n var attr = Attr (min (n + var) 255) attr
