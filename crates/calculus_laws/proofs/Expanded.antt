-- A query over a view answers what the query that its text was put into answers.
use Rattle.std.proofs.Common.{◌≡◌, refl, sym, ap, ◌∙◌, subst, ℕ, ◌-◌, true, ◌&&◌, List, [], ◌∷◌, map, Option, Some, None}
use Rattle.std.specs.List.{filter_map, enumerate_from}
use Rattle.calculus.specs.declared.query.RelKey.{RelKey}
use Rattle.calculus.specs.declared.query.QQual.{QQual}
use Rattle.calculus.specs.declared.query.Query.{Query}
use Rattle.calculus.specs.Rows.{Row, Ascends, has}
use Rattle.calculus.specs.Tree.{both}
use Rattle.calculus.specs.Lists.{is_any}
use Rattle.calculus.specs.Term.{Env, Aggs, no_aggs, holds}
use Rattle.calculus.specs.Limits.{greatest_level}
use Rattle.calculus.specs.Who.{Who}
use Rattle.calculus.specs.Database.{Db, View}
use Rattle.calculus.specs.Stored.{Viewed, range_at}
use Rattle.calculus.specs.QueryParts.{vars_of, targets_of, qual_of, qual_aggregates, query_aggregates}
use Rattle.calculus.specs.Used.{used_in_query}
use Rattle.calculus.specs.Assignments.{Source, choices, rows_used, variable_rows, assigned}
use Rattle.calculus.specs.Targets.{target_values, qualifying, rows_given, some_lacks}
use Rattle.calculus.specs.VariableRows.{range_rows, view_rows, rows_within, rows_of}
use Rattle.calculus.specs.Aggregate.{aggregates}
use Rattle.calculus.specs.Answer.{answer, lacks}
use Rattle.calculus.proofs.Sets.{same_set, Ascends-set_of}
use Rattle.calculus_laws.specs.Expansion.{substituted_qual, have_values, expanded, IsOverView}
use Rattle.calculus_laws.proofs.Members.{In, Chosen, choices-Chosen, Chosen-choices, has-In, In-has}
use Rattle.calculus_laws.proofs.Given.{IsOutcome, given-is, is-given, lack-is, is-lack}
use Rattle.calculus_laws.proofs.Plain.{none_left, none_right, in_targets, given_plain}
use Rattle.calculus_laws.proofs.Substituted.{holds_substituted, targets_substituted, values-have, have-values}
use Rattle.calculus_laws.proofs.UsedIn.{targets_of-expanded}
use Rattle.calculus_laws.proofs.SameRows.{equal_by, both_true, same_assigned}

-- ---- one variable

used_rows : (source : Source) (key : RelKey) (attrs : List ℕ) → is_any attrs ≡ true → rows_used source key attrs ≡ source key attrs
used_rows source key [] h = cc h
used_rows source key (a ∷ attrs) h = refl

one_chosen : (rows : List Row) (e : Env) → Chosen (rows ∷ []) e → (row : Row) × In row rows × (e ≡ row ∷ [])
one_chosen rows [] h = absurd h
one_chosen rows (row ∷ []) h = (row, h.0, refl)
one_chosen rows (row ∷ other ∷ e) h = absurd h.1

-- an assignment of a query with one variable, which is used, is a row of it
one-In : (source : Source) (q : Query) (key : RelKey) → vars_of q ≡ key ∷ [] → is_any (used_in_query 0 q) ≡ true → (e : Env) → In e (assigned source q)
    → (row : Row) × In row (source key (used_in_query 0 q)) × (e ≡ row ∷ [])
unfolding assigned
one-In source q key only is_used e h =
    let there : In e (choices (rows_used source key (used_in_query 0 q) ∷ [])) =
    subst (λ keys. In e (choices (map (λ p. variable_rows source q p.0 p.1) (enumerate_from 0 keys)))) only h in
    let (row, inside, same) = one_chosen (rows_used source key (used_in_query 0 q)) e (choices-Chosen (rows_used source key (used_in_query 0 q) ∷ []) e there) in
    (row, subst (In row) (used_rows source key (used_in_query 0 q) is_used) inside, same)

In-one : (source : Source) (q : Query) (key : RelKey) → vars_of q ≡ key ∷ [] → is_any (used_in_query 0 q) ≡ true → (row : Row) → In row (source key (used_in_query 0 q))
    → In (row ∷ []) (assigned source q)
unfolding assigned
In-one source q key only is_used row h =
    subst (λ keys. In (row ∷ []) (choices (map (λ p. variable_rows source q p.0 p.1) (enumerate_from 0 keys)))) (sym only)
    (Chosen-choices (rows_used source key (used_in_query 0 q) ∷ []) (row ∷ []) (subst (In row) (sym (used_rows source key (used_in_query 0 q) is_used)) h, tt))

-- ---- the two answers

-- the qualification that is joined, in parts
parts : (aggs : Aggs) (p q r : QQual) (e : Env) → holds aggs (both p (both q r)) e ≡ true → (holds aggs p e ≡ true) × (holds aggs q e ≡ true) × (holds aggs r e ≡ true)
unfolding holds
parts aggs p q r e h =
    let (first, rest) = both_true (holds aggs p e) (holds aggs q e && holds aggs r e) h in
    let (second, third) = both_true (holds aggs q e) (holds aggs r e) rest in
    (first, second, third)

joined : (aggs : Aggs) (p q r : QQual) (e : Env) → holds aggs p e ≡ true → holds aggs q e ≡ true → holds aggs r e ≡ true → holds aggs (both p (both q r)) e ≡ true
unfolding holds
joined aggs p q r e h k l = λ i. h i && (k i && l i)

-- where the view's text gives a row, the expanded query says of the assignment what the query says of the row
pub says_the_same : (aggs : Aggs) (view q : Query) (e : Env) (row : Row) → query_aggregates q ≡ [] → holds aggs (qual_of view) e ≡ true → target_values aggs (targets_of view) e ≡ Some row
    → (holds aggs (qual_of q) (row ∷ []) ≡ true → holds aggs (qual_of (expanded view q)) e ≡ true)
    × (target_values aggs (targets_of (expanded view q)) e ≡ target_values aggs (targets_of q) (row ∷ []))
says_the_same aggs view q e row plain own values = (
  λ h. joined aggs (substituted_qual (targets_of view) (qual_of q)) (qual_of view) (have_values (targets_of view)) e
      (holds_substituted aggs (targets_of view) e row (qual_of q) values (none_right (in_targets (targets_of q)) (qual_aggregates (qual_of q)) plain) ∙ h)
      own (values-have aggs (targets_of view) e row values),
  ap (λ ts. target_values aggs ts e) (targets_of-expanded view q)
      ∙ targets_substituted aggs (targets_of view) e row (targets_of q) values (none_left (in_targets (targets_of q)) (qual_aggregates (qual_of q)) plain),
)

-- where the expanded query holds, the view's text gives a row, and the query holds of it
gives_row : (aggs : Aggs) (view q : Query) (e : Env) → query_aggregates q ≡ [] → holds aggs (qual_of (expanded view q)) e ≡ true
    → (row : Row) × (holds aggs (qual_of view) e ≡ true) × (target_values aggs (targets_of view) e ≡ Some row) × (holds aggs (qual_of q) (row ∷ []) ≡ true)
gives_row aggs view q e plain h =
    let (put, own, needed) = parts aggs (substituted_qual (targets_of view) (qual_of q)) (qual_of view) (have_values (targets_of view)) e h in
    let (row, values) = have-values aggs (targets_of view) e needed in
    (row, own, values, sym (holds_substituted aggs (targets_of view) e row (qual_of q) values (none_right (in_targets (targets_of q)) (qual_aggregates (qual_of q)) plain)) ∙ put)

-- the query, and the assignments of the view's text, of which the query's variable has the rows
record IsOver (aggs : Aggs) (source : Source) (view q : Query) (es : List Env) : Type 0 where
  pub key : RelKey
  pub only : vars_of q ≡ key ∷ []
  pub is_used : is_any (used_in_query 0 q) ≡ true
  pub is_plain : query_aggregates q ≡ []
  pub rows : source key (used_in_query 0 q) ≡ rows_given aggs view es

-- what comes of the query comes of the expanded one
to_text : (aggs : Aggs) (source : Source) (view q : Query) (es : List Env) (outcome : Option Row) → IsOver aggs source view q es
    → IsOutcome aggs q (assigned source q) outcome → IsOutcome aggs (expanded view q) es outcome
to_text aggs source view q es outcome over h =
    let (e, there, q_holds, q_values) = h in
    let (row, inside, same) = one-In source q over.key over.only over.is_used e there in
    let (f, in_view, own, values) = given-is aggs view es row (In-has (rows_given aggs view es) row (subst (In row) over.rows inside)) in
    let (holding, alike) = says_the_same aggs view q f row over.is_plain own values in
    (f, in_view, holding (ap (holds aggs (qual_of q)) (sym same) ∙ q_holds), alike ∙ ap (target_values aggs (targets_of q)) (sym same) ∙ q_values)

-- and the other way
from_text : (aggs : Aggs) (source : Source) (view q : Query) (es : List Env) (outcome : Option Row) → IsOver aggs source view q es
    → IsOutcome aggs (expanded view q) es outcome → IsOutcome aggs q (assigned source q) outcome
from_text aggs source view q es outcome over h =
    let (f, in_view, holding, given) = h in
    let (row, own, values, q_holds) = gives_row aggs view q f over.is_plain holding in
    let inside : In row (rows_given aggs view es) = has-In (rows_given aggs view es) row (is-given aggs view es row (f, in_view, own, values)) in (
      row ∷ [],
      In-one source q over.key over.only over.is_used row (subst (In row) (sym over.rows) inside),
      q_holds,
      sym (says_the_same aggs view q f row over.is_plain own values).1 ∙ given,
    )

Ascends-given : (aggs : Aggs) (q : Query) (es : List Env) → Ascends (rows_given aggs q es)
unfolding rows_given
Ascends-given aggs q es = Ascends-set_of (filter_map (target_values aggs (targets_of q)) (qualifying aggs q es))

same_given : (aggs : Aggs) (source : Source) (view q : Query) (es : List Env) → IsOver aggs source view q es → rows_given aggs q (assigned source q) ≡ rows_given aggs (expanded view q) es
same_given aggs source view q es over =
    same_set (rows_given aggs q (assigned source q)) (rows_given aggs (expanded view q) es) (Ascends-given aggs q (assigned source q)) (Ascends-given aggs (expanded view q) es)
    (λ row. equal_by (has (rows_given aggs q (assigned source q)) row) (has (rows_given aggs (expanded view q) es) row)
    (λ h. is-given aggs (expanded view q) es row (to_text aggs source view q es (Some row) over (given-is aggs q (assigned source q) row h)))
    (λ h. is-given aggs q (assigned source q) row (from_text aggs source view q es (Some row) over (given-is aggs (expanded view q) es row h))))

same_lack : (aggs : Aggs) (source : Source) (view q : Query) (es : List Env) → IsOver aggs source view q es → some_lacks aggs q (assigned source q) ≡ some_lacks aggs (expanded view q) es
same_lack aggs source view q es over =
    equal_by (some_lacks aggs q (assigned source q)) (some_lacks aggs (expanded view q) es)
    (λ h. is-lack aggs (expanded view q) es (to_text aggs source view q es None over (lack-is aggs q (assigned source q) h)))
    (λ h. is-lack aggs q (assigned source q) (from_text aggs source view q es None over (lack-is aggs (expanded view q) es h)))

-- ---- in a database

-- the assignments of a view's text, below the levels of a query
below : Db → Who → View → List Env
below db who view = assigned (rows_within (greatest_level - 1) db who) view.query

view_has : (db : Db) (who : Who) (view : View) (key : RelKey) (attrs : List ℕ) → range_at db key ≡ Some (Viewed view) → rows_of db who key attrs ≡ rows_given no_aggs view.query (below db who view)
unfolding rows_of below
view_has db who view key attrs e = ap (range_rows (view_rows (rows_within (greatest_level - 1) db who)) db who key attrs) e

is_over : (db : Db) (who : Who) (view : View) (q : Query) → IsOverView db view q → IsOver (aggregates db who) (rows_of db who) view.query q (below db who view)
is_over db who view q over = record {
  key = over.key;
  only = over.only;
  is_used = over.is_used;
  is_plain = over.is_plain;
  rows = view_has db who view over.key (used_in_query 0 q) over.ranges ∙ given_plain no_aggs (aggregates db who) view.query (below db who view) over.view_is_plain;
}

same_below : (db : Db) (who : Who) (view : View) (q : Query) → IsOverView db view q → below db who view ≡ assigned (rows_of db who) (expanded view.query q)
unfolding below
same_below db who view q over = sym (same_assigned (greatest_level - 1) db who view.query q over.is_plain over.over_no_view)

pub answer_expanded : (db : Db) (who : Who) (view : View) (q : Query) → IsOverView db view q → answer db who q ≡ answer db who (expanded view.query q)
unfolding answer
answer_expanded db who view q over =
    same_given (aggregates db who) (rows_of db who) view.query q (below db who view) (is_over db who view q over)
    ∙ ap (rows_given (aggregates db who) (expanded view.query q)) (same_below db who view q over)

pub lacks_expanded : (db : Db) (who : Who) (view : View) (q : Query) → IsOverView db view q → lacks db who q ≡ lacks db who (expanded view.query q)
unfolding lacks
lacks_expanded db who view q over =
    same_lack (aggregates db who) (rows_of db who) view.query q (below db who view) (is_over db who view q over)
    ∙ ap (some_lacks (aggregates db who) (expanded view.query q)) (same_below db who view q over)
