-- Whoever asks has no rows that aren't there unrestricted.
use Rattle.std.proofs.Common.{◌≡◌, refl, ap, ◌∙◌, ℕ, true, List, [], ◌∷◌, map}
use Rattle.std.specs.List.{filter, enumerate_from}
use Rattle.calculus.specs.declared.query.RelKey.{RelKey}
use Rattle.calculus.specs.declared.query.Query.{Query}
use Rattle.calculus.specs.Rows.{Row, has}
use Rattle.calculus.specs.Limits.{greatest_level}
use Rattle.calculus.specs.Term.{Env, Aggs, no_aggs}
use Rattle.calculus.specs.Who.{Who, Unrestricted}
use Rattle.calculus.specs.Database.{Db, View}
use Rattle.calculus.specs.Rights.{Retrieve, may}
use Rattle.calculus.specs.QueryParts.{vars_of, query_aggregates}
use Rattle.calculus.specs.Used.{used_in_query}
use Rattle.calculus.specs.Assignments.{Source, rows_used, variable_rows, assigned}
use Rattle.calculus.specs.Targets.{rows_given}
use Rattle.calculus.specs.VariableRows.{view_rows, rows_within, rows_of}
use Rattle.calculus.specs.Aggregate.{aggregates}
use Rattle.calculus.specs.Answer.{answer}
use Rattle.calculus_laws.proofs.Members.{Within, Chosen, choices-Chosen, Chosen-choices, has-In, In-has, In-filter, filter-In}
use Rattle.calculus_laws.proofs.Given.{given-is, is-given}
use Rattle.calculus_laws.proofs.Plain.{given_plain}
use Rattle.calculus_laws.proofs.Through.{rows_said, both_said}

chosen_fewer : {X : Type 0} (f g : X → List Row) → ((x : X) → Within (f x) (g x)) → (xs : List X) (e : Env) → Chosen (map f xs) e → Chosen (map g xs) e
chosen_fewer f g fewer [] [] h = tt
chosen_fewer f g fewer [] (row ∷ e) h = absurd h
chosen_fewer f g fewer (x ∷ xs) [] h = absurd h
chosen_fewer f g fewer (x ∷ xs) (row ∷ e) h = (fewer x row h.0, chosen_fewer f g fewer xs e h.1)

assigned_fewer : (source other : Source) → ((key : RelKey) (attrs : List ℕ) → Within (source key attrs) (other key attrs)) → (q : Query)
    → Within (assigned source q) (assigned other q)
unfolding assigned
assigned_fewer source other fewer q e h =
    Chosen-choices (map (λ p. variable_rows other q p.0 p.1) (enumerate_from 0 (vars_of q))) e
    (chosen_fewer (λ (p : ℕ × RelKey). variable_rows source q p.0 p.1) (λ p. variable_rows other q p.0 p.1)
    (λ p. used p.1 (used_in_query p.0 q)) (enumerate_from 0 (vars_of q)) e
    (choices-Chosen (map (λ p. variable_rows source q p.0 p.1) (enumerate_from 0 (vars_of q))) e h))
  where
    used : (key : RelKey) (attrs : List ℕ) → Within (rows_used source key attrs) (rows_used other key attrs)
    used key [] row h = h
    used key (a ∷ attrs) row h = fewer key (a ∷ attrs) row h

given_fewer : (aggs : Aggs) (q : Query) (es fs : List Env) → Within es fs → (row : Row) → has (rows_given aggs q es) row ≡ true → has (rows_given aggs q fs) row ≡ true
given_fewer aggs q es fs fewer row h =
    let (e, there, holding, values) = given-is aggs q es row h in
    is-given aggs q fs row (e, fewer e there, holding, values)

view_fewer : (source other : Source) → ((key : RelKey) (attrs : List ℕ) → Within (source key attrs) (other key attrs)) → (view : View) → Within (view_rows source view) (view_rows other view)
view_fewer source other fewer view row h =
    has-In (view_rows other view) row
    (given_fewer no_aggs view.query (assigned source view.query) (assigned other view.query) (assigned_fewer source other fewer view.query) row
    (In-has (view_rows source view) row h))

kept_fewer : (db : Db) (who : Who) (key : RelKey) (attrs : List ℕ) (rows : List Row) → Within (filter (may db who Retrieve attrs key) rows) (filter (may db Unrestricted Retrieve attrs key) rows)
unfolding may
kept_fewer db who key attrs rows row h = In-filter (may db Unrestricted Retrieve attrs key) rows row (filter-In (may db who Retrieve attrs key) rows row h).0 refl

within_fewer : (db : Db) (who : Who) (n : ℕ) (key : RelKey) (attrs : List ℕ) → Within (rows_within n db who key attrs) (rows_within n db Unrestricted key attrs)
within_fewer db who =
    both_said (rows_said db who) (rows_said db Unrestricted) db (λ n key source other. (attrs : List ℕ) → Within (source attrs) (other attrs)) (record {
      nothing = λ n f g key e attrs row h. h;
      kept = λ n f g key relation e attrs. kept_fewer db who key attrs relation.rows;
      view_past = λ key view e attrs row h. h;
      view_above = λ n source other fewer key view e attrs. view_fewer source other fewer view;
    })

rows_fewer : (db : Db) (who : Who) (key : RelKey) (attrs : List ℕ) → Within (rows_of db who key attrs) (rows_of db Unrestricted key attrs)
unfolding rows_of
rows_fewer db who key attrs = within_fewer db who greatest_level key attrs

pub has_fewer : (db : Db) (who : Who) (key : RelKey) (attrs : List ℕ) (row : Row) → has (rows_of db who key attrs) row ≡ true → has (rows_of db Unrestricted key attrs) row ≡ true
has_fewer db who key attrs row h = In-has (rows_of db Unrestricted key attrs) row (rows_fewer db who key attrs row (has-In (rows_of db who key attrs) row h))

pub answer_fewer : (db : Db) (who : Who) (q : Query) (row : Row) → query_aggregates q ≡ [] → has (answer db who q) row ≡ true → has (answer db Unrestricted q) row ≡ true
unfolding answer
answer_fewer db who q row none h =
    ap (λ rows. has rows row) (given_plain (aggregates db Unrestricted) (aggregates db who) q (assigned (rows_of db Unrestricted) q) none)
    ∙ given_fewer (aggregates db who) q (assigned (rows_of db who) q) (assigned (rows_of db Unrestricted) q)
    (assigned_fewer (rows_of db who) (rows_of db Unrestricted) (rows_fewer db who) q) row h
