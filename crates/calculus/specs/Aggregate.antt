-- What an aggregate gives.
use Rattle.std.specs.Prelude.{ℕ, ℤ, pos, ◌+ℤ◌, int_div, Bool, false, ◌&&◌, if◌then◌else◌, List, [], ◌∷◌, map, length, filter, Option, Some, None}
use Rattle.std.specs.Ordering.{is_eq}
use Rattle.calculus.specs.declared.value.Value.{Value}
use Rattle.calculus.specs.declared.value.Value.TheVariants.{Int, Text}
use Rattle.calculus.specs.declared.value.Kind.{Kind}
use Rattle.calculus.specs.declared.operator.AggOp.{AggOp}
use Rattle.calculus.specs.declared.operator.AggOp.TheVariants.{Count, Countu, Sum, Sumu, Avg, Avgu, Min, Max, Any}
use Rattle.calculus.specs.declared.query.AggSource.{AggSource, Named}
use Rattle.calculus.specs.declared.query.QAgg.{QAgg}
use Rattle.calculus.specs.Tree.{rows_of_query}
use Rattle.calculus.specs.Number.{number}
use Rattle.calculus.specs.Value.{value_cmp, row_cmp}
use Rattle.calculus.specs.Rows.{Row}
use Rattle.calculus.specs.Lists.{insert_by}
use Rattle.calculus.specs.Term.{Aggs, val, holds, no_aggs, values_of, number_value}
use Rattle.calculus.specs.Kinds.{kind_of, is_text_kind}
use Rattle.calculus.specs.Who.{Who}
use Rattle.calculus.specs.Database.{Db}
use Rattle.calculus.specs.Stored.{kinds_at}
use Rattle.calculus.specs.QueryParts.{targets_of}
use Rattle.calculus.specs.Used.{used_in_aggregate}
use Rattle.calculus.specs.Assignments.{Source, assigned}
use Rattle.calculus.specs.Targets.{all_there, rows_given}
use Rattle.calculus.specs.VariableRows.{rows_of}

-- ---- the rows that are folded

-- the rows of the source: of what has this key those for one who uses these attributes, of a query its answer
abbrev pub source_rows : Source → List ℕ → AggSource → List Row
source_rows source attrs (Named key) = source key attrs
source_rows source attrs (rows_of_query q) = rows_given no_aggs q (assigned source q)

-- the by-values of a row are the values of the links; where a by-value is none they are not
abbrev pub agree : Row → Option Row → Bool
agree link None = false
agree link (Some by) = is_eq (row_cmp link by)

-- the rows that are folded: the inner qualification holds of the row, and its by-values are the values of the links
abbrev pub folded_rows : Source → QAgg → Row → List Row
folded_rows source g link =
    filter (λ s. holds no_aggs g.qual (s ∷ []) && agree link (values_of g.by (s ∷ []))) (source_rows source (used_in_aggregate g) g.source)

-- the argument at each of these rows; none where it has no value at one of them
abbrev pub arguments : QAgg → List Row → Option (List Value)
arguments g rows = all_there (map (λ s. val no_aggs g.arg (s ∷ [])) rows)

-- ---- what is made of their arguments

-- the different ones among these values, ascending
abbrev pub different : List Value → List Value
different [] = []
different (v ∷ vs) = insert_by value_cmp v (different vs)

-- the number that a value is; a text, of which there is no sum, is 0
abbrev pub number_in : Value → ℤ
number_in (Int n) = n
number_in (Text t) = pos 0

-- the exact sum
abbrev pub total : List Value → ℤ
total [] = pos 0
total (v ∷ vs) = number_in v +ℤ total vs

-- the exact sum divided by the number of values, cut toward zero; 0 of none
abbrev pub average : List Value → ℤ
average [] = pos 0
average (v ∷ vs) = int_div (total (v ∷ vs)) (pos (length (v ∷ vs)))

-- 1 where there is a value, else 0
abbrev pub any_of : List Value → ℕ
any_of [] = 0
any_of (v ∷ vs) = 1

-- the first of these values
abbrev pub first_or : Value → List Value → Value
first_or none [] = none
first_or none (v ∷ vs) = v

-- the last of these values
abbrev pub last_or : Value → List Value → Value
last_or none [] = none
last_or none (v ∷ vs) = last_or v vs

-- what an operation makes of the arguments, where `none` is the least and the greatest of no value; a sum outside 64 bits is none
abbrev pub fold_values : AggOp → Value → List Value → Option Value
fold_values Count none vs = Some (Int (pos (length vs)))
fold_values Countu none vs = Some (Int (pos (length (different vs))))
fold_values Sum none vs = number_value (number (total vs))
fold_values Sumu none vs = number_value (number (total (different vs)))
fold_values Avg none vs = Some (Int (average vs))
fold_values Avgu none vs = Some (Int (average (different vs)))
fold_values Min none vs = Some (first_or none (different vs))
fold_values Max none vs = Some (last_or none (different vs))
fold_values Any none vs = Some (Int (pos (any_of vs)))

-- ---- the aggregate

-- the kinds of the source's attributes
abbrev pub source_kinds : Db → AggSource → List Kind
source_kinds db (Named key) = kinds_at db key
source_kinds db (rows_of_query q) = map (λ t. t.kind) (targets_of q)

-- the least and the greatest of no value: the empty text of texts, else 0
abbrev pub none_value : Db → QAgg → Value
none_value db g = if is_text_kind (kind_of g.arg (source_kinds db g.source ∷ [])) then Text [] else Int (pos 0)

-- what the fold gives, where the argument has a value at each row
abbrev pub fold_arguments : Db → QAgg → Option (List Value) → Option Value
fold_arguments db g None = None
fold_arguments db g (Some vs) = fold_values g.op (none_value db g) vs

-- what the aggregate gives for these values of its links
abbrev pub fold_linked : Db → Source → QAgg → Option Row → Option Value
fold_linked db source g None = None
fold_linked db source g (Some link) = fold_arguments db g (arguments g (folded_rows source g link))

-- what an aggregate gives in an assignment; none where a link has no value there, or the argument has none at a row that is folded
unfoldable pub aggregates : Db → Who → Aggs
aggregates db who g e = fold_linked db (rows_of db who) g (values_of g.link e)
