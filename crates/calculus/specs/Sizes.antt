-- How large queries and views are once the views in them are expanded: levels, variables and sizes, each from what is known of the views below.
use Rattle.std.specs.Prelude.{ℕ, suc, ◌+◌, max, ◌||◌, filter, List, [], ◌∷◌, map, length, sum, sum_by, slice_get, Option, Some, None, option_map, unwrap_or}
use Rattle.std.specs.List.{enumerate_from}
use Rattle.calculus.specs.declared.query.RelKey.{RelKey}
use Rattle.calculus.specs.declared.query.AggSource.{AggSource, Named}
use Rattle.calculus.specs.declared.query.QTerm.{QTerm, Int, Chars, Attr, Agg'}
use Rattle.calculus.specs.declared.query.QQual.{QQual, True, Cmp, Like}
use Rattle.calculus.specs.declared.query.Query.{Query}
use Rattle.calculus.specs.Tree.{neg, abs, operation, concat, both, either, negated, rows_of_query}
use Rattle.calculus.specs.Limits.{greatest_level}
use Rattle.calculus.specs.Database.{Db, View}
use Rattle.calculus.specs.Stored.{Range, Kept, Viewed}
use Rattle.calculus.specs.Through.{through}
use Rattle.calculus.specs.QueryParts.{vars_of, targets_of, qual_of, query_aggregates}
use Rattle.calculus.specs.Lists.{is_any}
use Rattle.calculus.specs.Used.{used_in_query, used_vars}
use Rattle.calculus.specs.Assignments.{is_changed}
use Rattle.calculus.specs.declared.request.Update.{Update}

-- ---- levels

-- the greater of two levels; none where one is none
abbrev pub greater_level : Option ℕ → Option ℕ → Option ℕ
greater_level None l = None
greater_level (Some k) None = None
greater_level (Some k) (Some l) = Some (max k l)

-- the greatest of these levels; none where one is none
abbrev pub greatest_of : List (Option ℕ) → Option ℕ
greatest_of [] = Some 0
greatest_of (l ∷ ls) = greater_level l (greatest_of ls)

-- one more than the greatest of these levels; none where one is none
abbrev pub level_above : List (Option ℕ) → Option ℕ
level_above levels = option_map suc (greatest_of levels)

-- the level of what a variable ranges over, where `of_view` is that of a view: 0 where rows are kept, none where nothing is there
abbrev pub range_level : (View → Option ℕ) → Option Range → Option ℕ
range_level of_view None = None
range_level of_view (Some (Kept relation)) = Some 0
range_level of_view (Some (Viewed view)) = of_view view

-- the level of what stands under a key, where it is at most this one: a view's is one more than the greatest among what it names
abbrev pub level_within : ℕ → Db → RelKey → Option ℕ
level_within n db =
    through (λ of_view key range. range_level of_view range) (λ below view. level_above (map below (vars_of view.query))) None n db

-- the level of what stands under a key; none where nothing is there, or where a view names something of no smaller level or of none
unfoldable pub level_of : Db → RelKey → Option ℕ
level_of db key = level_within greatest_level db key

-- ---- sizes

-- what a variable is once the views in it are expanded: how many variables, the sizes of its attributes, and the size of its qualification
pub record Measure : Type 0 where
  pub variables : ℕ
  pub attrs : List ℕ
  pub qual : ℕ

-- what is known of each variable
abbrev pub Measures : Type 0
Measures = List Measure

-- the size of an attribute: of a view's that of its target, else 1
abbrev pub attr_size : Measures → ℕ → ℕ → ℕ
attr_size vars var attr = unwrap_or (attr_in (slice_get vars var)) 1
  where
    attr_in : Option Measure → Option ℕ
    attr_in None = None
    attr_in (Some m) = slice_get m.attrs attr

-- the size of a term: the number of its constants, attributes, operators and functions
unfoldable pub term_size : Measures → QTerm → ℕ
term_size vars (Int n) = 1
term_size vars (Chars bytes) = 1
term_size vars (Attr var attr) = attr_size vars var attr
term_size vars (neg t) = 1 + term_size vars t
term_size vars (abs t) = 1 + term_size vars t
term_size vars (operation op t u) = 1 + (term_size vars t + term_size vars u)
term_size vars (concat t u) = 1 + (term_size vars t + term_size vars u)
term_size vars (Agg' mark row) = 1

-- the size of a qualification: the number of its constants, attributes, operators, functions and comparisons
unfoldable pub qual_size : Measures → QQual → ℕ
qual_size vars True = 0
qual_size vars (Cmp op t u) = 1 + (term_size vars t + term_size vars u)
qual_size vars (Like t pattern same) = 1 + (term_size vars t + 1)
qual_size vars (both p q) = 1 + (qual_size vars p + qual_size vars q)
qual_size vars (either p q) = 1 + (qual_size vars p + qual_size vars q)
qual_size vars (negated p) = 1 + qual_size vars p

-- where rows are kept: one variable, attributes of size 1, no qualification
abbrev pub plain_measure : Measure
plain_measure = record { variables = 1; attrs = []; qual = 0 }

-- what is known of what stands under a key
abbrev pub Known : Type 0
Known = RelKey → Measure

-- what is known of each variable of a query
abbrev pub measures : Known → Query → Measures
measures known q = map known (vars_of q)

-- a query: the variables that it uses, once expanded; the sizes of its targets; and the size of its qualification with that of each variable that it uses
abbrev pub query_measure : Known → Query → Measure
query_measure known q = record {
  variables = sum_by (λ p. (known p.1).variables) (used_vars q);
  attrs = map (λ t. term_size (measures known q) t.term) (targets_of q);
  qual = qual_size (measures known q) (qual_of q) + sum_by (λ p. (known p.1).qual) (used_vars q);
}

-- what a variable ranges over, where `of_view` measures a view
abbrev pub range_measure : (View → Measure) → Option Range → Measure
range_measure of_view None = plain_measure
range_measure of_view (Some (Kept relation)) = plain_measure
range_measure of_view (Some (Viewed view)) = of_view view

-- what is known of what stands under a key, through at most so many levels of views
abbrev pub measure_within : ℕ → Db → Known
measure_within n db = through (λ of_view key range. range_measure of_view range) (λ below view. query_measure below view.query) plain_measure n db

-- what is known of what stands under a key
unfoldable pub measure_of : Db → Known
measure_of db = measure_within greatest_level db

-- the size of a query, as that of a view: its targets, and its qualification with those of its variables
unfoldable pub query_size : Db → Query → ℕ
query_size db q = let m = query_measure (measure_of db) q in sum m.attrs + m.qual

-- ---- variables

-- the variables of a query as it stands: those that are used, and one for each aggregate
unfoldable pub variables : Query → ℕ
variables q = length (used_vars q) + length (query_aggregates q)

-- the variables of an aggregate's source once the views in it are expanded
abbrev pub source_variables : Known → AggSource → ℕ
source_variables known (Named key) = (known key).variables
source_variables known (rows_of_query q) = (query_measure known q).variables

-- the variables of a query once the views in it are expanded
unfoldable pub expanded_variables : Db → Query → ℕ
expanded_variables db q = (query_measure (measure_of db) q).variables + sum_by (λ g. source_variables (measure_of db) g.source) (query_aggregates q)

-- ---- updates, and views that aren't there yet

-- the variables of an update that count: those that are used, and the one whose rows are replaced or deleted
abbrev pub update_vars : Update → List (ℕ × RelKey)
update_vars u = filter (λ p. is_any (used_in_query p.0 u.query) || is_changed u p.0) (enumerate_from 0 (vars_of u.query))

-- the variables of an update as it stands: those that count, and one for each aggregate
unfoldable pub update_variables : Update → ℕ
update_variables u = length (update_vars u) + length (query_aggregates u.query)

-- the variables of an update once the views in it are expanded
unfoldable pub update_expanded_variables : Db → Update → ℕ
update_expanded_variables db u =
    sum_by (λ p. (measure_of db p.1).variables) (update_vars u) + sum_by (λ g. source_variables (measure_of db) g.source) (query_aggregates u.query)

-- the level that a view of this query would have; none where it names something of none
unfoldable pub query_level : Db → Query → Option ℕ
query_level db q = level_above (map (level_of db) (vars_of q))
