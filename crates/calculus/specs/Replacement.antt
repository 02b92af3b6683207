-- The rows after an update, and what refuses it.
use Rattle.std.specs.Prelude.{ℕ, Bool, true, false, not, nat_lt, List, [], ◌∷◌, map, length, filter, filter_map, zip, slice_get, Option, Some, None, is_none, Result, Ok, Err}
use Rattle.std.specs.List.{list_any, list_all}
use Rattle.std.specs.Ordering.{eq_by_cmp}
use Rattle.calculus.specs.declared.value.Value.{Value}
use Rattle.calculus.specs.declared.value.Domain.TheVariants.{I4}
use Rattle.calculus.specs.declared.value.Kind.{Kind}
use Rattle.calculus.specs.declared.value.Kind.TheVariants.{Of, Wide}
use Rattle.calculus.specs.declared.query.Target.{Target}
use Rattle.calculus.specs.declared.schema.Attr.{Attr}
use Rattle.calculus.specs.declared.schema.RelInfo.{RelInfo}
use Rattle.calculus.specs.declared.schema.Spec.TheVariants.{Heap}
use Rattle.calculus.specs.declared.change.Pair.{Pair}
use Rattle.calculus.specs.declared.change.DbChange.{DbChange}
use Rattle.calculus.specs.declared.change.DbChange.TheVariants.{Rows, Create}
use Rattle.calculus.specs.declared.request.Update.{Update}
use Rattle.calculus.specs.declared.request.UpdateOp.TheVariants.{Append, Replace, Delete, Into}
use Rattle.calculus.specs.Value.{row_cmp, fits}
use Rattle.calculus.specs.Rows.{Row, has, put}
use Rattle.calculus.specs.Limits.{most_rows}
use Rattle.calculus.specs.Who.{Who}
use Rattle.calculus.specs.Database.{Db}
use Rattle.calculus.specs.Stored.{rows_at, kinds_at}
use Rattle.calculus.specs.QueryParts.{targets_of}
use Rattle.calculus.specs.Targets.{target_values}
use Rattle.calculus.specs.Aggregate.{aggregates}
use Rattle.calculus.specs.Pairs.{pairs, qualifying_updates}

-- ---- rows and pairs

-- the old rows of pairs
abbrev pub old_rows : List Pair → List Row
old_rows ps = filter_map (λ p. p.old) ps

-- the new rows of pairs
abbrev pub new_rows : List Pair → List Row
new_rows ps = filter_map (λ p. p.new) ps

-- ascending rows, joined with these others
abbrev pub with_rows : List Row → List Row → List Row
with_rows [] rows = rows
with_rows (row ∷ others) rows = put row (with_rows others rows)

-- the rows that are none of these others
abbrev pub without_rows : List Row → List Row → List Row
without_rows others rows = filter (λ row. not (has others row)) rows

-- the rows that are old in no pair, joined with all new rows
unfoldable pub after : List Row → List Pair → List Row
after rows ps = with_rows (new_rows ps) (without_rows (old_rows ps) rows)

-- ---- what refuses an update

-- the pair has this old row
abbrev pub has_old : Row → Pair → Bool
has_old row p = elim p.old [ None ↦ false | Some old ↦ eq_by_cmp row_cmp row old ]

-- some of these rows are different
abbrev pub some_differ : List Row → Bool
some_differ [] = false
some_differ (row ∷ rows) = list_any (λ other. not (eq_by_cmp row_cmp row other)) rows

-- some old row has two different new rows
unfoldable pub contended : List Pair → Bool
contended ps = list_any (λ old. some_differ (new_rows (filter (has_old old) ps))) (old_rows ps)

-- the attribute of a new relation that holds the values of a target: a number of 64 bits becomes one of 32
abbrev pub made_attr : Target → Attr
made_attr t = record { name = t.name; kind = made_kind t.kind }
  where
    made_kind : Kind → Kind
    made_kind Wide = Of I4
    made_kind (Of domain) = Of domain

-- the kind of the attribute that each target's value is for
abbrev pub wanted_kinds : Db → Update → List (Option Kind)
wanted_kinds db u = elim u.op [
  | Append ↦ at_places
  | Replace ↦ at_places
  | Delete ↦ at_places
  | Into ↦ map (λ t. Some (made_attr t).kind) (targets_of u.query)
]
  where
    at_places : List (Option Kind)
    at_places = map (slice_get (kinds_at db u.rel)) u.places

-- the value is one of the kind; where there is no attribute it is not
abbrev pub is_of_kind : Value → Option Kind → Bool
is_of_kind v None = false
is_of_kind v (Some Wide) = true
is_of_kind v (Some (Of domain)) = fits v domain

-- each of the values, where they are there, is one of its kind
abbrev pub all_fit : List (Option Kind) → Option Row → Bool
all_fit kinds None = true
all_fit kinds (Some values) = list_all (λ p. is_of_kind p.0 p.1) (zip values kinds)

-- in some qualifying assignment a target has no value
abbrev pub update_lacks : Db → Who → Update → Bool
update_lacks db who u = list_any (λ c. is_none (target_values (aggregates db who) (targets_of u.query) c.env)) (qualifying_updates db who u)

-- in each qualifying assignment the values of the targets fit
abbrev pub values_fit : Db → Who → Update → Bool
values_fit db who u = list_all (λ c. all_fit (wanted_kinds db u) (target_values (aggregates db who) (targets_of u.query) c.env)) (qualifying_updates db who u)

-- the rows that would stand
abbrev pub rows_after : Db → Who → Update → List Row
rows_after db who u = after (rows_at db u.rel) (pairs db who u)

-- each cause that refuses an update by what rows have, by its number, and whether it is there; in the order in which they count
abbrev pub update_refusals : Db → Who → Update → List (ℕ × Bool)
update_refusals db who u =
    (20, update_lacks db who u)
    ∷ (21, not (values_fit db who u))
    ∷ (22, contended (pairs db who u))
    ∷ (29, nat_lt most_rows (length (rows_after db who u)))
    ∷ []

-- the first cause that is there
abbrev pub first_refusal : List (ℕ × Bool) → Option ℕ
first_refusal [] = None
first_refusal (c ∷ cs) = elim c.1 [ true ↦ Some c.0 | false ↦ first_refusal cs ]

-- ---- the change

-- what is known of a relation that an update makes: a heap without keys, its attributes those of the targets
abbrev pub made_info : Update → RelInfo
made_info u = record { key = u.rel; spec = Heap; attrs = map made_attr (targets_of u.query); keys = [] }

-- the change of a relation from these rows to those
abbrev pub rows_change : Update → List Row → List Row → DbChange
rows_change u old new = Rows u.rel (without_rows new old) (without_rows old new)

-- the change that an update makes: a new relation with the set of its rows, else the rows that go and those that come
abbrev pub change_of : Db → Who → Update → DbChange
change_of db who u = elim u.op [
  | Append ↦ rows_change u (rows_at db u.rel) (rows_after db who u)
  | Replace ↦ rows_change u (rows_at db u.rel) (rows_after db who u)
  | Delete ↦ rows_change u (rows_at db u.rel) (rows_after db who u)
  | Into ↦ Create (made_info u) (rows_after db who u)
]

-- the change that an update makes, or the number of the cause that refuses it
unfoldable pub updated : Db → Who → Update → Result DbChange ℕ
updated db who u = elim (first_refusal (update_refusals db who u)) [ None ↦ Ok (change_of db who u) | Some number ↦ Err number ]
