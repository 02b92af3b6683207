-- What an update does with single rows, as pairs of an old row and a new one.
use Rattle.std.specs.Prelude.{ℕ, pos, Bool, true, false, ◌&&◌, if◌then◌else◌, List, [], ◌∷◌, ◌++◌, map, filter, filter_map, zip, fold, slice_set, Option, Some, None, option_map}
use Rattle.std.specs.List.{list_all}
use Rattle.calculus.specs.declared.value.Value.{Value}
use Rattle.calculus.specs.declared.value.Value.TheVariants.{Int, Text}
use Rattle.calculus.specs.declared.value.Kind.{Kind}
use Rattle.calculus.specs.declared.change.Pair.{Pair}
use Rattle.calculus.specs.declared.request.Update.{Update}
use Rattle.calculus.specs.declared.request.UpdateOp.{UpdateOp}
use Rattle.calculus.specs.declared.request.UpdateOp.TheVariants.{Append, Replace, Delete, Into}
use Rattle.calculus.specs.Rows.{Row}
use Rattle.calculus.specs.Term.{holds, no_aggs}
use Rattle.calculus.specs.Kinds.{is_number_kind}
use Rattle.calculus.specs.Who.{Who}
use Rattle.calculus.specs.Database.{Db, rules_on}
use Rattle.calculus.specs.Stored.{kinds_at}
use Rattle.calculus.specs.Rights as right
use Rattle.calculus.specs.Rights.{may}
use Rattle.calculus.specs.QueryParts.{targets_of, qual_of}
use Rattle.calculus.specs.Assignments.{Changing, update_assigned}
use Rattle.calculus.specs.Targets.{target_values}
use Rattle.calculus.specs.VariableRows.{rows_of}
use Rattle.calculus.specs.Aggregate.{aggregates}

-- ---- the pair of one assignment

-- what an attribute holds that an append doesn't name: 0, or the empty text
abbrev pub blank : Kind → Value
blank kind = if is_number_kind kind then Int (pos 0) else Text []

-- the row with these values at these places
abbrev pub with_values : List ℕ → Row → Row → Row
with_values places values row = fold (λ r p. slice_set r p.0 p.1) row (zip places values)

-- no old row, and this new one
abbrev pub put_pair : Row → Pair
put_pair row = record { old = None; new = Some row }

-- the pair where the old row is this one and the targets have these values: an append fills the attributes that it doesn't name, a replace leaves them
abbrev pub pair_of : Db → Update → Option Row → Row → Pair
pair_of db u old values = elim u.op [
  | Append ↦ put_pair (with_values u.places values (map blank (kinds_at db u.rel)))
  | Replace ↦ record { old = old; new = option_map (with_values u.places values) old }
  | Delete ↦ record { old = old; new = None }
  | Into ↦ put_pair values
]

-- the pair of an assignment; none where a target has no value there
abbrev pub pair_at : Db → Who → Update → Changing → Option Pair
pair_at db who u c = option_map (pair_of db u c.old) (target_values (aggregates db who) (targets_of u.query) c.env)

-- ---- which pairs stand

-- to append
abbrev pub is_append : UpdateOp → Bool
is_append Append = true
is_append Replace = false
is_append Delete = false
is_append Into = false

-- the one who asks may append the row, and the update's own cut holds of it
abbrev pub may_append : Db → Who → Update → Row → Bool
may_append db who u row = holds no_aggs u.new_cut (row ∷ []) && may db who right.Append u.places u.rel row

-- a new row is allowed where all checks of the update hold of it and, in an append, where it may be appended
abbrev pub new_allowed : Db → Who → Update → Row → Bool
new_allowed db who u row = list_all (λ q. holds no_aggs q (row ∷ [])) u.checks && (if is_append u.op then may_append db who u row else true)

-- a pair is allowed where its new row is, if it has one
abbrev pub pair_allowed : Db → Who → Update → Pair → Bool
pair_allowed db who u p = elim p.new [ None ↦ true | Some row ↦ new_allowed db who u row ]

-- the assignments of an update in which its qualification holds
abbrev pub qualifying_updates : Db → Who → Update → List Changing
qualifying_updates db who u = filter (λ c. holds (aggregates db who) (qual_of u.query) c.env) (update_assigned db who (rows_of db who) u)

-- the pairs of an update, one for each qualifying assignment, without those that don't stand
unfoldable pub pairs : Db → Who → Update → List Pair
pairs db who u = filter (pair_allowed db who u) (filter_map (pair_at db who u) (qualifying_updates db who u))

-- ---- the rules of the relation

-- the update with the rules of its relation among its checks; what makes a relation has no rules
unfoldable pub ruled : Db → Update → Update
ruled db u = elim u.op [ Append ↦ with_rules | Replace ↦ with_rules | Delete ↦ with_rules | Into ↦ u ]
  where
    with_rules : Update
    with_rules = record u { checks = map (λ r. r.qual) (rules_on db u.rel) ++ u.checks }
