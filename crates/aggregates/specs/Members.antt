-- The rows of a source that an aggregate folds, each with its by-values and its argument.
use Rattle.std.specs.Prelude.{if◌then◌else◌, List, [], ◌∷◌, filter_map, Option, Some, None}
use Rattle.calculus.specs.declared.value.Value.{Value}
use Rattle.calculus.specs.declared.query.QAgg.{QAgg}
use Rattle.calculus.specs.Rows.{Row}
use Rattle.calculus.specs.Term.{val, holds, no_aggs, values_of}

-- the by-values of a row that is folded, and its argument, which may have no value
abbrev pub Member : Type 0
Member = List Value × Option Value

-- a row with these by-values and this argument, where its by-values are there
abbrev pub member_by : Option Row → Option Value → Option Member
member_by None arg = None
member_by (Some by) arg = Some (by, arg)

-- what a row of the source gives to fold: none where the inner qualification doesn't hold, or where a by-value is none
abbrev pub member : QAgg → Row → Option Member
member g row = if holds no_aggs g.qual (row ∷ []) then member_by (values_of g.by (row ∷ [])) (val no_aggs g.arg (row ∷ [])) else None

-- what the rows of the source give to fold, in their order
unfoldable pub members : QAgg → List Row → List Member
members g rows = filter_map (member g) rows
