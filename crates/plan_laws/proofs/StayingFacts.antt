-- The facts of a database that carry over to one in which what its views, rules, permits and indexes name stays alike.
use Rattle.std.proofs.Common.{◌≡◌, sym, ap, ◌∙◌, ℕ, ◌+◌, nat_le, nat_lt, Bool, ◌&&◌, not, List, [], ◌∷◌, length}
use Rattle.std.specs.Prelude.{is_some, sum, sum_by, bytes_eq}
use Rattle.std.specs.List.{list_all, AllByRecursion}
use Rattle.calculus.specs.declared.value.Kind.{Kind}
use Rattle.calculus.specs.declared.query.RelKey.{RelKey}
use Rattle.calculus.specs.declared.query.QAgg.{QAgg}
use Rattle.calculus.specs.declared.query.Query.{Query}
use Rattle.calculus.specs.declared.schema.Permit.{Permit}
use Rattle.calculus.specs.declared.schema.Rule.{Rule}
use Rattle.calculus.specs.Database.{Db, View, Index, is_relation}
use Rattle.calculus.specs.Limits.{most_expanded_variables, greatest_size}
use Rattle.calculus.specs.Kinds.{kind_of, kinds_fit}
use Rattle.calculus.specs.Lists.{is_any}
use Rattle.calculus.specs.Stored.{kinds_at}
use Rattle.calculus.specs.QueryParts.{vars_of, targets_of, qual_of, query_aggregates}
use Rattle.calculus.specs.Sizes.{Measure, query_measure, measure_of, level_of, expanded_variables, query_size, source_variables}
use Rattle.calculus.specs.IsDatabase.{vars_are_there, valid_query, has_kind, valid_row_qual, valid_permit, user_is_named, valid_index, keys_stand}
use Rattle.calculus.specs.Structures.{is_index}
use Rattle.plan_laws.proofs.Staying.{Staying, map_same, all_same, level_stays_same, query_stays, attrs_stay, kinds_stay, there_stays}

-- a view under such a key, which names only such keys, and has no aggregates
pub record ViewStays (P : RelKey → Type 0) (v : View) : Type 0 where
  pub key : P v.info.key
  pub vars : AllByRecursion P (vars_of v.query)
  pub plain : query_aggregates v.query ≡ []

pub levels_hold : (P : RelKey → Type 0) (db later : Db) → Staying P db later → (views : List View) → AllByRecursion (ViewStays P) views
    → list_all (λ v. is_some (level_of db v.info.key)) views ≡ list_all (λ v. is_some (level_of later v.info.key)) views
levels_hold P db later stay views h = all_same (ViewStays P) _ _ views h (λ v s. ap is_some (level_stays_same P db later stay v.info.key s.key))

pub vars_hold : (P : RelKey → Type 0) (db later : Db) → Staying P db later → (views : List View) → AllByRecursion (ViewStays P) views
    → list_all (λ v. vars_are_there db v.query) views ≡ list_all (λ v. vars_are_there later v.query) views
vars_hold P db later stay views h = all_same (ViewStays P) _ _ views h (λ v s. all_same P _ _ (vars_of v.query) s.vars (λ key p. there_stays P db later stay key p))

-- the kinds in a query fit, where its variables have attributes of these kinds
abbrev pub stands_with : List (List Kind) → Query → Bool
stands_with kinds q = list_all (λ t. has_kind (kind_of t.term kinds) t.kind) (targets_of q) && kinds_fit (qual_of q) kinds

pub queries_hold : (P : RelKey → Type 0) (db later : Db) → Staying P db later → (views : List View) → AllByRecursion (ViewStays P) views
    → list_all (λ v. valid_query db v.query) views ≡ list_all (λ v. valid_query later v.query) views
queries_hold P db later stay views h = all_same (ViewStays P) _ _ views h
    (λ v s. ap (λ kinds. stands_with kinds v.query) (map_same P (kinds_at db) (kinds_at later) (vars_of v.query) s.vars (λ key p. kinds_stay P db later stay key p)))

pub sizes_hold : (P : RelKey → Type 0) (db later : Db) → Staying P db later → (views : List View) → AllByRecursion (ViewStays P) views
    → list_all (λ v. nat_le (query_size db v.query) greatest_size) views ≡ list_all (λ v. nat_le (query_size later v.query) greatest_size) views
unfolding query_size
sizes_hold P db later stay views h = all_same (ViewStays P) _ _ views h
    (λ v s. ap (λ (m : Measure). nat_le (sum m.attrs + m.qual) greatest_size) (query_stays P db later stay v.query s.vars))

pub expansions_hold : (P : RelKey → Type 0) (db later : Db) → Staying P db later → (views : List View) → AllByRecursion (ViewStays P) views
    → list_all (λ v. nat_le (expanded_variables db v.query) most_expanded_variables) views ≡ list_all (λ v. nat_le (expanded_variables later v.query) most_expanded_variables) views
unfolding expanded_variables
expansions_hold P db later stay views h = all_same (ViewStays P) _ _ views h (λ v s. ap (λ n. nat_le n most_expanded_variables) (one v s))
  where
    with : Db → Measure → List QAgg → ℕ
    with d m gs = m.variables + sum_by (λ g. source_variables (measure_of d) g.source) gs

    one : (v : View) → ViewStays P v → with db (query_measure (measure_of db) v.query) (query_aggregates v.query) ≡ with later (query_measure (measure_of later) v.query) (query_aggregates v.query)
    one v s =
        ap (with db (query_measure (measure_of db) v.query)) s.plain ∙ ap (λ (m : Measure). m.variables + 0) (query_stays P db later stay v.query s.vars)
        ∙ sym (ap (with later (query_measure (measure_of later) v.query)) s.plain)

pub rules_hold : (P : RelKey → Type 0) (db later : Db) → Staying P db later → (rules : List (RelKey × Rule)) → AllByRecursion (λ p. P p.0) rules
    → list_all (λ p. is_relation db p.0 && valid_row_qual db p.0 p.1.qual) rules ≡ list_all (λ p. is_relation later p.0 && valid_row_qual later p.0 p.1.qual) rules
rules_hold P db later stay rules h = all_same (λ p. P p.0) _ _ rules h
    (λ p s i. stay.relations p.0 s i && kinds_fit p.1.qual (kinds_stay P db later stay p.0 s i ∷ []))

pub permits_hold : (P : RelKey → Type 0) (db later : Db) → Staying P db later → db.dba ≡ later.dba → (permits : List (RelKey × Permit)) → AllByRecursion (λ p. P p.0) permits
    → list_all (λ p. valid_permit db p.0 p.1) permits ≡ list_all (λ p. valid_permit later p.0 p.1) permits
permits_hold P db later stay dba permits h = all_same (λ p. P p.0) _ _ permits h
    (λ p s i. stay.relations p.0 s i && (bytes_eq p.0.owner (dba i) && (user_is_named p.1.user
    && (list_all (λ a. nat_lt a (length (attrs_stay P db later stay p.0 s i))) p.1.attrs && kinds_fit p.1.qual (kinds_stay P db later stay p.0 s i ∷ [])))))

pub indexes_hold : (P : RelKey → Type 0) (db later : Db) → Staying P db later → (indexes : List Index) → AllByRecursion (λ x. P x.base) indexes
    → list_all (valid_index db) indexes ≡ list_all (valid_index later) indexes
indexes_hold P db later stay indexes h = all_same (λ x. P x.base) _ _ indexes h (λ x s i. is_index x.info.spec
    && (stay.relations x.base s i && (not (is_any x.info.attrs) && (is_any x.info.keys && keys_stand (attrs_stay P db later stay x.base s i) x.info.keys))))
