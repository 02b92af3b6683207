-- The expansion of what stands under a key tells of the rows that one who asks has of it, through any number of levels of views.
use Rattle.std.proofs.Common.{◌≡◌, refl, sym, ap, ◌∙◌, subst, inl, inr, ℕ, zero, suc, ◌+◌, Bool, true, false, cond, ◌&&◌, ◌||◌, List, [], ◌∷◌, map, None}
use Rattle.std.specs.Prelude.{filter}
use Rattle.std.specs.List.{list_all, list_any, enumerate_from}
use Rattle.calculus.specs.declared.query.RelKey.{RelKey}
use Rattle.calculus.specs.declared.query.QQual.{QQual}
use Rattle.calculus.specs.declared.query.Query.{Query}
use Rattle.calculus.specs.declared.schema.Permit.{Permit}
use Rattle.calculus.specs.Rows.{Row}
use Rattle.calculus.specs.Term.{Env, val, holds, no_aggs, attribute_value}
use Rattle.calculus.specs.Who.{Who, Unrestricted, AsUser}
use Rattle.calculus.specs.Database.{Db, View, permits_on}
use Rattle.calculus.specs.Limits.{greatest_level}
use Rattle.calculus.specs.Stored.{range_at, rows_at, kept_rows}
use Rattle.calculus.specs.Rights.{Right, Retrieve, covers, needs_none, may}
use Rattle.calculus.specs.QueryParts.{vars_of, qual_aggregates}
use Rattle.calculus.specs.Used.{used_in_query}
use Rattle.calculus.specs.Assignments.{Source, rows_used, variable_rows, assigned}
use Rattle.calculus.specs.VariableRows.{view_rows, rows_within, rows_of}
use Rattle.calculus_laws.proofs.Members.{In, Chosen, In-filter, filter-In}
use Rattle.calculus_laws.proofs.Through.{Said, rows_said, both_said}
use Rattle.view_text.specs.declared.expansion.Expansion.{Expansion}
use Rattle.view_text.specs.Replaced.{of_only, no_aggregate}
use Rattle.view_text.specs.Halves.{any_of}
use Rattle.view_text.specs.Scoped.{is_within, is_qual_within}
use Rattle.view_text.specs.Expansions.{ExpansionSource, no_expansion, used_expansion, query_expansions}
use Rattle.view_text.specs.ExpansionOf.{permit_condition, covering, restriction, kept_expansion, view_text, past_expansion, range_expansion, expansion_within, expansion_of}
use Rattle.tree_laws.proofs.Values.{without_value_has_none, StandsFor, makes_none, holds_replaced, within_itself}
use Rattle.tree_laws.proofs.Halves.{holds_any_of, any_within}
use Rattle.tree_laws.proofs.Within.{qual_replaced_within}
use Rattle.tree_laws.proofs.Joint.{all_hold, IsRow, Denotes, DenoteEach}
use Rattle.tree_laws.proofs.Rows.{rows_denoted_by}

-- ---- permits

nowhere : (v a : ℕ) → attribute_value [] v a ≡ None
unfolding attribute_value
nowhere zero a = refl
nowhere (suc v) a = refl

only_stands : (row : Row) → StandsFor of_only (row ∷ []) (row ∷ [])
unfolding val attribute_value
only_stands row aggs zero a = refl
only_stands row aggs (suc v) a = without_value_has_none aggs (row ∷ []) ∙ sym (nowhere v a)

-- the condition of a permit holds of a row where its qualification does
condition_holds : (permit : Permit) (row : Row) → holds no_aggs (permit_condition permit) (row ∷ []) ≡ holds no_aggs permit.qual (row ∷ [])
condition_holds permit row =
    holds_replaced no_aggs no_aggs no_aggregate of_only (row ∷ []) (row ∷ []) (qual_aggregates permit.qual) (only_stands row)
    (makes_none no_aggs (row ∷ []) (row ∷ []) (qual_aggregates permit.qual)) permit.qual (within_itself (qual_aggregates permit.qual))

any_covering : (test : Permit → Bool) (row : Row) (ps : List Permit)
    → list_any (λ q. holds no_aggs q (row ∷ [])) (map permit_condition (filter test ps)) ≡ list_any (λ p. test p && holds no_aggs p.qual (row ∷ [])) ps
any_covering test row [] = refl
any_covering test row (p ∷ ps) = by (test p) (any_covering test row ps)
  where
    by : (b : Bool) → list_any (λ q. holds no_aggs q (row ∷ [])) (map permit_condition (filter test ps)) ≡ list_any (λ p. test p && holds no_aggs p.qual (row ∷ [])) ps
        → list_any (λ q. holds no_aggs q (row ∷ [])) (map permit_condition (cond b (p ∷ filter test ps) (filter test ps)))
        ≡ ((b && holds no_aggs p.qual (row ∷ [])) || list_any (λ p. test p && holds no_aggs p.qual (row ∷ [])) ps)
    by true more = λ i. condition_holds p row i || more i
    by false more = more

true_right : (b : Bool) → (b && true) ≡ b
true_right true = refl
true_right false = refl

-- the conditions of permits hold of the rows with which one may do this
pub restriction_holds : (db : Db) (who : Who) (right : Right) (attrs : List ℕ) (key : RelKey) (row : Row) → all_hold no_aggs (restriction db who right attrs key) (row ∷ []) ≡ may db who right attrs key row
unfolding may
restriction_holds db Unrestricted right attrs key row = refl
restriction_holds db (AsUser asker) right attrs key row = by (needs_none db asker right key)
  where
    by : (b : Bool) → all_hold no_aggs (elim b [ true ↦ [] | false ↦ any_of (map permit_condition (covering db asker right attrs key)) ∷ [] ]) (row ∷ [])
        ≡ (b || list_any (λ p. covers p asker right attrs && holds no_aggs p.qual (row ∷ [])) (permits_on db key))
    by true = refl
    by false =
        true_right (holds no_aggs (any_of (map permit_condition (covering db asker right attrs key))) (row ∷ []))
        ∙ holds_any_of no_aggs (row ∷ []) (map permit_condition (covering db asker right attrs key))
        ∙ any_covering (λ p. covers p asker right attrs) row (permits_on db key)

-- they are about that row alone
only_within : (v a : ℕ) → is_within 1 (of_only v a) ≡ true
unfolding is_within
only_within zero a = refl
only_within (suc v) a = refl

conditions_within : (ps : List Permit) → list_all (is_qual_within 1) (map permit_condition ps) ≡ true
conditions_within [] = refl
conditions_within (p ∷ ps) = λ i. qual_replaced_within 1 of_only only_within p.qual i && conditions_within ps i

pub restriction_within : (db : Db) (who : Who) (right : Right) (attrs : List ℕ) (key : RelKey) → list_all (is_qual_within 1) (restriction db who right attrs key) ≡ true
restriction_within db Unrestricted right attrs key = refl
restriction_within db (AsUser asker) right attrs key = by (needs_none db asker right key)
  where
    by : (b : Bool) → list_all (is_qual_within 1) (elim b [ true ↦ [] | false ↦ any_of (map permit_condition (covering db asker right attrs key)) ∷ [] ]) ≡ true
    by true = refl
    by false = true_right (is_qual_within 1 (any_of (map permit_condition (covering db asker right attrs key))))
        ∙ any_within 1 (map permit_condition (covering db asker right attrs key)) (conditions_within (covering db asker right attrs key))

-- ---- what is kept

own_row : (conditions : List QQual) (key : RelKey) (row : Row) → IsRow (kept_expansion conditions key) row (row ∷ [])
unfolding val attribute_value
own_row conditions key row a = refl

-- the expansion of what is kept, where these conditions are those that rows pass
pub kept_denoted : (db : Db) (key : RelKey) (conditions : List QQual) (passes : Row → Bool) → list_all (is_qual_within 1) conditions ≡ true
    → ((row : Row) → all_hold no_aggs conditions (row ∷ []) ≡ passes row) → Denotes db (filter passes (rows_at db key)) (kept_expansion conditions key)
kept_denoted db key conditions passes within same = record { scoped = within; to = to; from = from }
  where
    to : (seg : Env) → Chosen (rows_at db key ∷ []) seg → all_hold no_aggs conditions seg ≡ true → (row : Row) × In row (filter passes (rows_at db key)) × IsRow (kept_expansion conditions key) row seg
    to [] chosen h = absurd chosen
    to (row ∷ []) chosen h = (row, In-filter passes (rows_at db key) row chosen.0 (sym (same row) ∙ h), own_row conditions key row)
    to (row ∷ other ∷ more) chosen h = absurd chosen.1

    from : (row : Row) → In row (filter passes (rows_at db key)) → (seg : Env) × Chosen (rows_at db key ∷ []) seg × (all_hold no_aggs conditions seg ≡ true) × IsRow (kept_expansion conditions key) row seg
    from row inside = let (there, passing) = filter-In passes (rows_at db key) row inside in (row ∷ [], (there, tt), same row ∙ passing, own_row conditions key row)

-- ---- the variables of a query

pub no_expansion_denoted : (db : Db) → Denotes db ([] ∷ []) no_expansion
no_expansion_denoted db = record { scoped = refl; to = to; from = from }
  where
    empty : (e : Env) → IsRow no_expansion [] e
    empty e zero = without_value_has_none no_aggs e
    empty e (suc a) = without_value_has_none no_aggs e

    to : (seg : Env) → Chosen [] seg → true ≡ true → (row : Row) × In row ([] ∷ []) × IsRow no_expansion row seg
    to [] chosen h = ([], inl refl, empty [])
    to (row ∷ seg) chosen h = absurd chosen

    from : (row : Row) → In row ([] ∷ []) → (seg : Env) × Chosen [] seg × (true ≡ true) × IsRow no_expansion row seg
    from row (inl same) = ([], tt, refl, subst (λ row. IsRow no_expansion row []) same (empty []))
    from row (inr h) = absurd h

-- texts that tell of the rows of each key
abbrev pub DenotesAll : Db → Source → ExpansionSource → Type 0
DenotesAll db source expansions = (key : RelKey) (attrs : List ℕ) → Denotes db (source key attrs) (expansions key attrs)

pub used_denoted : (db : Db) (source : Source) (expansions : ExpansionSource) → DenotesAll db source expansions → (key : RelKey) (attrs : List ℕ) → Denotes db (rows_used source key attrs) (used_expansion expansions key attrs)
used_denoted db source expansions denote key [] = no_expansion_denoted db
used_denoted db source expansions denote key (a ∷ attrs) = denote key (a ∷ attrs)

-- tell of the rows of a query's variables
pub query_denoted : (db : Db) (source : Source) (expansions : ExpansionSource) → DenotesAll db source expansions → (q : Query) (n : ℕ) (keys : List RelKey)
    → DenoteEach db (map (λ p. variable_rows source q p.0 p.1) (enumerate_from n keys)) (map (λ p. used_expansion expansions p.1 (used_in_query p.0 q)) (enumerate_from n keys))
query_denoted db source expansions denote q n [] = tt
query_denoted db source expansions denote q n (key ∷ keys) = (used_denoted db source expansions denote key (used_in_query n q), query_denoted db source expansions denote q (n + 1) keys)

-- ---- through levels of views

abbrev pub expansions_said : Db → Who → Said (List ℕ → Expansion)
expansions_said db who = record {
  of_range = λ of_view key range attrs. range_expansion (λ view. of_view view attrs) db who key attrs range;
  of_view = λ below view attrs. view_text below view;
  past = λ attrs. past_expansion;
}

past_denoted : (db : Db) → Denotes db [] past_expansion
unfolding holds is_qual_within
past_denoted db = record { scoped = refl; to = λ seg chosen h. cc h; from = λ row inside. absurd inside }

nothing_kept : (db : Db) (key : RelKey) → range_at db key ≡ None → rows_at db key ≡ []
nothing_kept db key h = ap kept_rows h

view_denoted : (db : Db) (f : Source) (g : ExpansionSource) → DenotesAll db f g → (view : View) → Denotes db (view_rows f view) (view_text g view)
unfolding assigned
view_denoted db f g below view =
    rows_denoted_by db view.query (map (λ p. variable_rows f view.query p.0 p.1) (enumerate_from 0 (vars_of view.query))) (query_expansions g view.query)
    (query_denoted db f g below view.query 0 (vars_of view.query))

pub within_denoted : (n : ℕ) (db : Db) (who : Who) → DenotesAll db (rows_within n db who) (expansion_within n db who)
within_denoted n db who key attrs =
    both_said (rows_said db who) (expansions_said db who) db (λ n key rows expansions. (attrs : List ℕ) → Denotes db (rows attrs) (expansions attrs))
    (record {
      nothing = λ n f g key h attrs.
          subst (λ rows. Denotes db (filter (may db who Retrieve attrs key) rows) (kept_expansion (restriction db who Retrieve attrs key) key)) (nothing_kept db key h)
          (kept_denoted db key (restriction db who Retrieve attrs key) (may db who Retrieve attrs key) (restriction_within db who Retrieve attrs key) (restriction_holds db who Retrieve attrs key));
      kept = λ n f g key relation h attrs.
          subst (λ rows. Denotes db (filter (may db who Retrieve attrs key) rows) (kept_expansion (restriction db who Retrieve attrs key) key)) (ap kept_rows h)
          (kept_denoted db key (restriction db who Retrieve attrs key) (may db who Retrieve attrs key) (restriction_within db who Retrieve attrs key) (restriction_holds db who Retrieve attrs key));
      view_past = λ key view h attrs. past_denoted db;
      view_above = λ n f g below key view h attrs. view_denoted db f g below view;
    })
    n key attrs

pub all_denoted : (db : Db) (who : Who) → DenotesAll db (rows_of db who) (expansion_of db who)
unfolding rows_of expansion_of
all_denoted db who = within_denoted greatest_level db who
