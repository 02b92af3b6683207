-- Where the schema of a database stands in its place: what names mean, and the query of a statement.
use Rattle.std.proofs.Common.{◌≡◌, refl, ap, ◌∙◌, ℕ, ◌+◌, List, [], ◌∷◌, ◌++◌, map, length, Option, Some, None}
use Rattle.std.specs.Prelude.{Bool, ◌&&◌, flat_map, option_and_then, option_map, unwrap_or}
use Rattle.calculus.specs.declared.query.QTerm.{QTerm}
use Rattle.calculus.specs.declared.query.QTerm.TheVariants as qterm
use Rattle.calculus.specs.declared.query.QQual.{QQual}
use Rattle.calculus.specs.declared.query.QAgg.{QAgg}
use Rattle.calculus.specs.declared.query.Query.{Query}
use Rattle.calculus.specs.declared.query.Target.{Target}
use Rattle.calculus.specs.declared.query.AggSource.{AggSource, Named}
use Rattle.calculus.specs.declared.query.QTerm as tree_term
use Rattle.calculus.specs.declared.query.QQual as tree_qual
use Rattle.calculus.specs.declared.query.RelKey.{RelKey}
use Rattle.calculus.specs.declared.value.Kind.{Kind}
use Rattle.calculus.specs.declared.value.Kind.TheVariants.{Wide}
use Rattle.calculus.specs.declared.statement.Term.{Term, Int, Chars, Attr as Dot, Agg', Row_of-Term, end_of-Term, more_of-Term, items-the_row-Term, Row_of-AggTerm, end_of-AggTerm, more_of-AggTerm}
use Rattle.calculus.specs.declared.statement.Qual.{Qual, True, Cmp}
use Rattle.calculus.specs.declared.statement.Item.{Item}
use Rattle.calculus.specs.declared.statement.Item.TheVariants as item
use Rattle.calculus.specs.declared.statement.Statement.{Statement}
use Rattle.calculus.specs.Tree as tree
use Rattle.calculus.specs.Written.{neg, abs, operation, concat, both, either, negated}
use Rattle.calculus.specs.Keys.{key_of}
use Rattle.calculus.specs.Database.{Db}
use Rattle.calculus.specs.Stored.{kinds_at, attrs_in}
use Rattle.calculus.specs.Kinds.{number_kind, operated_kind, joined_kind, comparable, is_text_kind, kind_of, kinds_fit}
use Rattle.calculus.specs.Aggregate.{source_kinds}
use Rattle.calculus.specs.QueryParts.{targets_of}
use Rattle.calculus.specs.Schema.{schema_of}
use Rattle.quel_meaning.specs.Scope.{Scope, named, ranged, entry_named, key_found, place_found}
use Rattle.quel_meaning.specs.Ranges.{range_of}
use Rattle.quel_meaning.specs.WrittenParts.{aggregates_in, aggregates_in_qual, aggregates_in_item, aggregate_vars, items_of, where_of, vars_in}
use Rattle.quel_meaning.specs.WrittenTree.{Vars, var_place, key_over, attr_in, first_var, compared, term_tree, aggregate_tree, row_trees, qual_tree}
use Rattle.quel_meaning.specs.WrittenQuery.{kinds_over, target, attr_targets, item_targets, targets_from, where_tree, query_of}
use Rattle.quel_meaning.specs.KindsInQueries.{kind_in_query, kind_of_row, aggregate_kind, fitting_kind, links_fit, kinds_fit_in_query}
use Rattle.schema_laws.proofs.Alike.{info_alike, entry_alike, kinds_alike, found_alike}

-- the scope with the schema in the place of its database
abbrev pub bare_scope : Scope → Scope
bare_scope s = record { db = schema_of s.db; user = s.user; ranges = s.ranges }

-- ---- names

pub named_alike : (s : Scope) (name : List ℕ) → named (bare_scope s) name ≡ named s name
unfolding named
named_alike s name = found_alike s.db s.user name

pub ranged_alike : (s : Scope) (var : List ℕ) → ranged (bare_scope s) var ≡ ranged s var
unfolding ranged
ranged_alike s var = λ i. option_and_then (λ key. info_alike s.db key i) (range_of s.ranges var)

pub entry_named_alike : (s : Scope) (name : List ℕ) → entry_named (bare_scope s) name ≡ entry_named s name
unfolding entry_named schema_of
entry_named_alike s name = λ i. elim (entry_alike s.db (key_of s.user name) i) [
  | Some own ↦ Some own.key
  | None ↦
      elim (entry_alike s.db (key_of s.db.dba name) i) [
        | Some other ↦ Some other.key
        | None ↦ option_map (λ catalogue. catalogue.key) (info_alike s.db (key_of s.db.dba name) i)
      ]
]

key_alike : (s : Scope) (var : List ℕ) → key_over (bare_scope s) var ≡ key_over s var
key_alike s var = ap key_found (ranged_alike s var)

attr_alike : (s : Scope) (var attr : List ℕ) → attr_in (bare_scope s) var attr ≡ attr_in s var attr
attr_alike s var attr = λ i. place_found (ranged_alike s var i) attr

-- ---- the trees of terms and qualifications

mutual
  term_alike : (s : Scope) (vars : Vars) (n : ℕ) (t : Term) → term_tree (bare_scope s) vars n t ≡ term_tree s vars n t
  term_alike s vars n (Int number) = refl
  term_alike s vars n (Chars bytes) = refl
  term_alike s vars n (Dot var attr) = λ i. qterm.Attr (var_place vars var) (attr_alike s var attr i)
  term_alike s vars n (neg t) = λ i. tree.neg (term_alike s vars n t i)
  term_alike s vars n (abs t) = λ i. tree.abs (term_alike s vars n t i)
  term_alike s vars n (operation op t u) = λ i. tree.operation op (term_alike s vars n t i) (term_alike s vars (n + length (aggregates_in t)) u i)
  term_alike s vars n (concat t u) = λ i. tree.concat (term_alike s vars n t i) (term_alike s vars (n + length (aggregates_in t)) u i)
  term_alike s vars n (Agg' mark row) = aggregate_alike s vars n row

  aggregate_alike : (s : Scope) (vars : Vars) (n : ℕ) → {m : _} → (row : Row_of-AggTerm m) → aggregate_tree (bare_scope s) vars n row ≡ aggregate_tree s vars n row
  aggregate_alike s vars n end_of-AggTerm = refl
  aggregate_alike s vars n (more_of-AggTerm op arg bys by qual rest) =
      let inner = aggregate_vars (record { op = op; arg = arg; by = items-the_row-Term _ by; qual = qual }) in
      λ i. tree.aggregate (record {
        slot = n;
        op = op;
        source = Named (key_alike s (first_var inner) i);
        arg = term_alike s inner 0 arg i;
        by = rows_alike s inner by i;
        link = rows_alike s vars by i;
        qual = qual_alike s inner 0 qual i;
      })

  rows_alike : (s : Scope) (vars : Vars) → {m : _} → (row : Row_of-Term m) → row_trees (bare_scope s) vars row ≡ row_trees s vars row
  rows_alike s vars end_of-Term = refl
  rows_alike s vars (more_of-Term t rest) = λ i. term_alike s vars 0 t i ∷ rows_alike s vars rest i

  qual_alike : (s : Scope) (vars : Vars) (n : ℕ) (q : Qual) → qual_tree (bare_scope s) vars n q ≡ qual_tree s vars n q
  qual_alike s vars n True = refl
  qual_alike s vars n (Cmp op t u) = λ i. compared op (term_alike s vars n t i) (term_alike s vars (n + length (aggregates_in t)) u i)
  qual_alike s vars n (both p q) = λ i. tree.both (qual_alike s vars n p i) (qual_alike s vars (n + length (aggregates_in_qual p)) q i)
  qual_alike s vars n (either p q) = λ i. tree.either (qual_alike s vars n p i) (qual_alike s vars (n + length (aggregates_in_qual p)) q i)
  qual_alike s vars n (negated p) = λ i. tree.negated (qual_alike s vars n p i)

-- ---- kinds

source_kinds_alike : (db : Db) (source : AggSource) → source_kinds (schema_of db) source ≡ source_kinds db source
source_kinds_alike db (Named key) = kinds_alike db key
source_kinds_alike db (tree.rows_of_query q) = refl

aggregate_kind_alike : (db : Db) (g : QAgg) (vars : List (List Kind)) → aggregate_kind (schema_of db) g vars ≡ aggregate_kind db g vars
unfolding aggregate_kind
aggregate_kind_alike db g vars = λ i.
    let inner = source_kinds_alike db g.source i ∷ [] in
    fitting_kind (links_fit inner g.by vars g.link && kinds_fit g.qual inner) g.op (kind_of g.arg inner)

row_kind_alike : (db : Db) → {n : _} → (row : tree_term.Row_of-QAgg n) (vars : List (List Kind)) → kind_of_row (schema_of db) row vars ≡ kind_of_row db row vars
row_kind_alike db tree_term.end_of-QAgg vars = refl
row_kind_alike db (tree_term.more_of-QAgg slot op source arg bys by links link qual rest) vars =
    aggregate_kind_alike db (record { slot = slot; op = op; source = source; arg = arg; by = tree_term.items-the_row-QTerm _ by; link = tree_term.items-the_row-QTerm _ link; qual = qual }) vars

pub kind_alike : (db : Db) (t : QTerm) (vars : List (List Kind)) → kind_in_query (schema_of db) t vars ≡ kind_in_query db t vars
unfolding kind_in_query
kind_alike db (tree_term.Int n) vars = refl
kind_alike db (tree_term.Chars bytes) vars = refl
kind_alike db (tree_term.Attr var attr) vars = refl
kind_alike db (tree.neg t) vars = ap number_kind (kind_alike db t vars)
kind_alike db (tree.abs t) vars = ap number_kind (kind_alike db t vars)
kind_alike db (tree.operation op t u) vars = λ i. operated_kind (kind_alike db t vars i) (kind_alike db u vars i)
kind_alike db (tree.concat t u) vars = λ i. joined_kind (kind_alike db t vars i) (kind_alike db u vars i)
kind_alike db (tree_term.Agg' mark row) vars = row_kind_alike db row vars

pub kinds_fit_alike : (db : Db) (q : QQual) (vars : List (List Kind)) → kinds_fit_in_query (schema_of db) q vars ≡ kinds_fit_in_query db q vars
unfolding kinds_fit_in_query
kinds_fit_alike db tree_qual.True vars = refl
kinds_fit_alike db (tree_qual.Cmp op t u) vars = λ i. comparable (kind_alike db t vars i) (kind_alike db u vars i)
kinds_fit_alike db (tree_qual.Like t pattern same) vars = ap is_text_kind (kind_alike db t vars)
kinds_fit_alike db (tree.both p q) vars = λ i. kinds_fit_alike db p vars i && kinds_fit_alike db q vars i
kinds_fit_alike db (tree.either p q) vars = λ i. kinds_fit_alike db p vars i && kinds_fit_alike db q vars i
kinds_fit_alike db (tree.negated p) vars = kinds_fit_alike db p vars

-- ---- the query of a statement

kinds_over_alike : (s : Scope) (vars : Vars) → kinds_over (bare_scope s) vars ≡ kinds_over s vars
kinds_over_alike s vars = (λ i. map (λ var. kinds_alike s.db (key_over (bare_scope s) var) i) vars) ∙ (λ i. map (λ var. kinds_at s.db (key_alike s var i)) vars)

target_alike : (s : Scope) (vars : Vars) (name : List ℕ) (t u : QTerm) → t ≡ u → target (bare_scope s) vars name t ≡ target s vars name u
target_alike s vars name t u e =
    ap (target (bare_scope s) vars name) e
    ∙ (λ i. record { name = name; kind = unwrap_or (kind_alike s.db u (kinds_over_alike s vars i) i) Wide; term = u })

item_alike : (s : Scope) (vars : Vars) (n : ℕ) (it : Item) → item_targets (bare_scope s) vars n it ≡ item_targets s vars n it
item_alike s vars n (item.Set name term) = λ i. target_alike s vars name (term_tree (bare_scope s) vars n term) (term_tree s vars n term) (term_alike s vars n term) i ∷ []
item_alike s vars n (item.Attr var attr) =
    λ i. target_alike s vars attr (qterm.Attr (var_place vars var) (attr_in (bare_scope s) var attr)) (qterm.Attr (var_place vars var) (attr_in s var attr))
    (λ j. qterm.Attr (var_place vars var) (attr_alike s var attr j)) i ∷ []
item_alike s vars n (item.All var) = λ i. attr_targets (var_place vars var) (attrs_in (ranged_alike s var i))

targets_alike : (s : Scope) (vars : Vars) (n : ℕ) (items : List Item) → targets_from (bare_scope s) vars n items ≡ targets_from s vars n items
targets_alike s vars n [] = refl
targets_alike s vars n (it ∷ items) = λ i. item_alike s vars n it i ++ targets_alike s vars (n + length (aggregates_in_item it)) items i

where_alike : (s : Scope) (stmt : Statement) → where_tree (bare_scope s) stmt ≡ where_tree s stmt
unfolding where_tree
where_alike s stmt = qual_alike s (vars_in stmt) (length (flat_map aggregates_in_item (items_of stmt))) (where_of stmt)

pub query_alike : (s : Scope) (stmt : Statement) → query_of (bare_scope s) stmt ≡ query_of s stmt
unfolding query_of
query_alike s stmt = λ i. tree.query (map (λ var. key_alike s var i) (vars_in stmt)) (targets_alike s (vars_in stmt) 0 (items_of stmt) i) (where_alike s stmt i)
