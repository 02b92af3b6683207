-- In the aggregates of a tree that is fit no other stands, and it changes no view.
use Rattle.std.proofs.Common.{◌≡◌, refl, sym, ap, ◌∙◌, ℕ, Bool, true, false, cond, not, ◌&&◌, List, [], ◌∷◌, ◌++◌, Option, Some, None, is_some, arith}
use Rattle.std.proofs.lemmas.Bool.Decides.{nat_tests}
use Rattle.std.specs.Prelude.{slice_get, flat_map, option_map}
use Rattle.std.specs.List.{list_all}
use Rattle.calculus.specs.declared.operator.AggOp.{AggOp}
use Rattle.calculus.specs.declared.value.Kind.{Kind}
use Rattle.calculus.specs.declared.query.RelKey.{RelKey}
use Rattle.calculus.specs.declared.query.AggSource.{AggSource, Named}
use Rattle.calculus.specs.declared.query.QAgg.{QAgg}
use Rattle.calculus.specs.declared.query.QTerm.{QTerm, Int, Chars, Attr, Agg', items-the_row-QTerm, Row_of-QAgg, end_of-QAgg, more_of-QAgg}
use Rattle.calculus.specs.declared.query.QQual.{QQual, True, Cmp, Like}
use Rattle.calculus.specs.declared.query.Target.{Target}
use Rattle.calculus.specs.declared.query.Query.{Query}
use Rattle.calculus.specs.declared.request.Update.{Update}
use Rattle.calculus.specs.declared.request.UpdateOp.{UpdateOp}
use Rattle.calculus.specs.declared.request.UpdateOp.TheVariants as op
use Rattle.calculus.specs.Tree.{neg, abs, operation, concat, both, either, negated, rows_of_query}
use Rattle.calculus.specs.Lists.{is_any}
use Rattle.calculus.specs.Kinds.{kind_of, number_kind, operated_kind, joined_kind, comparable, is_text_kind, kinds_fit}
use Rattle.calculus.specs.Database.{Db, Relation, View, relation_at, view_at, is_relation}
use Rattle.calculus.specs.Catalogue.{catalogue_at}
use Rattle.calculus.specs.Stored.{Range, Kept, Viewed, range_at}
use Rattle.calculus.specs.Aggregate.{source_kinds}
use Rattle.calculus.specs.IsDatabase.{has_kind, var_kinds, valid_query, is_kind}
use Rattle.calculus.specs.QueryParts.{aggregates_of, term_aggregates, qual_aggregates, query_aggregates, vars_of, targets_of, qual_of}
use Rattle.quel_meaning.specs.KindsInQueries.{links_fit, fitting_kind, aggregate_kind, kind_of_row, kind_in_query, kinds_fit_in_query, query_fits, assignments_fit}
use Rattle.quel_meaning.specs.FitQueries.{Allowed, source_fits, sources_fit, has_few_targets, reads_fit}
use Rattle.quel_meaning.specs.Fit.{update_kinds_fit, update_fits, relation_fits, is_this_key, places_fit, checks_fit}
use Rattle.calculus_laws.specs.Expansion.{is_no_view}
use Rattle.calculus_laws.proofs.Enough.{same_key-exact}
use Rattle.calculus_laws.proofs.ViewAnswer.{stands_plain, term_plain}
use Rattle.tree_laws.specs.Nesting.{source_is_plain, nests_none, aggregates_nest_none, IsOverNoView}
use Rattle.tree_laws.proofs.Scopes.{both_true}
use Rattle.tree_laws.proofs.Joint.{all_append, both_are}

-- ---- kinds that are there

pub number_there : (k : Option Kind) → is_some (number_kind k) ≡ true → is_some k ≡ true
unfolding number_kind
number_there None h = cc h
number_there (Some k) h = refl

pub operated_there : (k l : Option Kind) → is_some (operated_kind k l) ≡ true → (is_some k ≡ true) × (is_some l ≡ true)
unfolding operated_kind number_kind
operated_there None l h = cc h
operated_there (Some k) (Some l) h = (refl, refl)
operated_there (Some k) None h = cc (go _ h)
  where
    go : (b : Bool) → is_some (cond b (number_kind None) None) ≡ true → false ≡ true
    go true h = h
    go false h = h

pub joined_there : (k l : Option Kind) → is_some (joined_kind k l) ≡ true → (is_some k ≡ true) × (is_some l ≡ true)
unfolding joined_kind
joined_there None l h = cc h
joined_there (Some k) None h = cc h
joined_there (Some k) (Some l) h = (refl, refl)

pub compared_there : (k l : Option Kind) → comparable k l ≡ true → (is_some k ≡ true) × (is_some l ≡ true)
unfolding comparable
compared_there None l h = cc h
compared_there (Some k) None h = cc h
compared_there (Some k) (Some l) h = (refl, refl)

pub text_there : (k : Option Kind) → is_text_kind k ≡ true → is_some k ≡ true
unfolding is_text_kind
text_there None h = cc h
text_there (Some k) h = refl

pub kind_there : (o : Option Kind) (kind : Kind) → has_kind o kind ≡ true → is_some o ≡ true
kind_there None kind h = cc h
kind_there (Some k) kind h = refl

-- ---- links

-- no aggregate stands in the links
abbrev links_plain : QAgg → Bool
links_plain g = list_all (λ t. not (is_any (term_aggregates t))) g.link

not_any : {X : Type 0} (xs : List X) → xs ≡ [] → not (is_any xs) ≡ true
not_any xs h = ap (λ xs. not (is_any xs)) h

linked : (inner vars : List (List Kind)) (by link : List QTerm) → links_fit inner by vars link ≡ true → list_all (λ t. not (is_any (term_aggregates t))) link ≡ true
linked inner vars [] [] h = refl
linked inner vars [] (t ∷ link) h = cc h
linked inner vars (b ∷ by) [] h = cc h
linked inner vars (b ∷ by) (t ∷ link) h =
    let parts = both_true (comparable (kind_of b inner) (kind_of t vars)) (links_fit inner by vars link) h in
    let plain = not_any (term_aggregates t) (term_plain vars t (compared_there (kind_of b inner) (kind_of t vars) parts.0).1) in
    λ i. plain i && linked inner vars by link parts.1 i

pub fitting : (fit : Bool) (o : AggOp) (k : Option Kind) → is_some (fitting_kind fit o k) ≡ true → fit ≡ true
fitting true o k h = refl
fitting false o None h = cc h
fitting false o (Some k) h = cc h

aggregate_linked : (db : Db) (g : QAgg) (vars : List (List Kind)) → is_some (aggregate_kind db g vars) ≡ true → links_plain g ≡ true
unfolding aggregate_kind
aggregate_linked db g vars h =
    let inner = source_kinds db g.source ∷ [] in
    linked inner vars g.by g.link
    (both_true (links_fit inner g.by vars g.link) (kinds_fit g.qual inner) (fitting (links_fit inner g.by vars g.link && kinds_fit g.qual inner) g.op (kind_of g.arg inner) h)).0

all_two : (gs hs : List QAgg) → list_all links_plain gs ≡ true → list_all links_plain hs ≡ true → list_all links_plain (gs ++ hs) ≡ true
all_two gs hs h k = all_append links_plain gs hs ∙ both_are (list_all links_plain gs) (list_all links_plain hs) h k

row_linked : (db : Db) {n : _} (row : Row_of-QAgg n) (vars : List (List Kind)) → is_some (kind_of_row db row vars) ≡ true → list_all links_plain (aggregates_of row) ≡ true
row_linked db end_of-QAgg vars h = refl
row_linked db (more_of-QAgg slot o source arg bys by links link qual rest) vars h =
    let g : QAgg = record { slot = slot; op = o; source = source; arg = arg; by = items-the_row-QTerm _ by; link = items-the_row-QTerm _ link; qual = qual } in
    both_are (links_plain g) true (aggregate_linked db g vars h) refl

term_linked : (db : Db) (t : QTerm) (vars : List (List Kind)) → is_some (kind_in_query db t vars) ≡ true → list_all links_plain (term_aggregates t) ≡ true
unfolding kind_in_query term_aggregates
term_linked db (Int n) vars h = refl
term_linked db (Chars bytes) vars h = refl
term_linked db (Attr var attr) vars h = refl
term_linked db (neg t) vars h = term_linked db t vars (number_there (kind_in_query db t vars) h)
term_linked db (abs t) vars h = term_linked db t vars (number_there (kind_in_query db t vars) h)
term_linked db (operation o t u) vars h =
    let there = operated_there (kind_in_query db t vars) (kind_in_query db u vars) h in
    all_two (term_aggregates t) (term_aggregates u) (term_linked db t vars there.0) (term_linked db u vars there.1)
term_linked db (concat t u) vars h =
    let there = joined_there (kind_in_query db t vars) (kind_in_query db u vars) h in
    all_two (term_aggregates t) (term_aggregates u) (term_linked db t vars there.0) (term_linked db u vars there.1)
term_linked db (Agg' mark row) vars h = row_linked db row vars h

qual_linked : (db : Db) (q : QQual) (vars : List (List Kind)) → kinds_fit_in_query db q vars ≡ true → list_all links_plain (qual_aggregates q) ≡ true
unfolding kinds_fit_in_query qual_aggregates
qual_linked db True vars h = refl
qual_linked db (Cmp o t u) vars h =
    let there = compared_there (kind_in_query db t vars) (kind_in_query db u vars) h in
    all_two (term_aggregates t) (term_aggregates u) (term_linked db t vars there.0) (term_linked db u vars there.1)
qual_linked db (Like t pattern same) vars h = term_linked db t vars (text_there (kind_in_query db t vars) h)
qual_linked db (both p q) vars h =
    let fit = both_true (kinds_fit_in_query db p vars) (kinds_fit_in_query db q vars) h in
    all_two (qual_aggregates p) (qual_aggregates q) (qual_linked db p vars fit.0) (qual_linked db q vars fit.1)
qual_linked db (either p q) vars h =
    let fit = both_true (kinds_fit_in_query db p vars) (kinds_fit_in_query db q vars) h in
    all_two (qual_aggregates p) (qual_aggregates q) (qual_linked db p vars fit.0) (qual_linked db q vars fit.1)
qual_linked db (negated p) vars h = qual_linked db p vars h

-- ---- queries

-- a test of targets of which each has a kind where it passes
targets_linked : (db : Db) (vars : List (List Kind)) (test : Target → Bool) → ((t : Target) → test t ≡ true → is_some (kind_in_query db t.term vars) ≡ true)
    → (ts : List Target) → list_all test ts ≡ true → list_all links_plain (flat_map (λ t. term_aggregates t.term) ts) ≡ true
targets_linked db vars test there [] h = refl
targets_linked db vars test there (t ∷ ts) h =
    let parts = both_true (test t) (list_all test ts) h in
    all_two (term_aggregates t.term) (flat_map (λ t. term_aggregates t.term) ts) (term_linked db t.term vars (there t parts.0)) (targets_linked db vars test there ts parts.1)

pub source_plain : (may : Allowed) (db : Db) (source : AggSource) → source_fits may db source ≡ true → source_is_plain source ≡ true
unfolding source_fits
source_plain may db (Named key) h = refl
source_plain may db (rows_of_query q) h =
    let outer = both_true (list_all may.source (vars_of q)) _ h in
    let inner = both_true _ (has_few_targets q && valid_query db q) outer.1 in
    not_any (query_aggregates q) (stands_plain db q (both_true (has_few_targets q) (valid_query db q) inner.1).1)

nested : (may : Allowed) (db : Db) (gs : List QAgg) → list_all (λ g. source_fits may db g.source) gs ≡ true → list_all links_plain gs ≡ true → list_all nests_none gs ≡ true
nested may db [] h k = refl
nested may db (g ∷ gs) h k =
    let sources = both_true (source_fits may db g.source) (list_all (λ g. source_fits may db g.source) gs) h in
    let links = both_true (links_plain g) (list_all links_plain gs) k in
    λ i. (source_plain may db g.source sources.0 i && links.0 i) && nested may db gs sources.1 links.1 i

reads_sources : (may : Allowed) (db : Db) (q : Query) → reads_fit may db q ≡ true → sources_fit may db q ≡ true
unfolding reads_fit
reads_sources may db q h = (both_true (sources_fit may db q) _ (both_true (list_all may.variable (vars_of q)) _ h).1).0

pub query_nests : (may : Allowed) (db : Db) (q : Query) → reads_fit may db q ≡ true → query_fits db q ≡ true → aggregates_nest_none q ≡ true
unfolding query_fits
query_nests may db q reads fits =
    let parts = both_true (list_all (λ t. has_kind (kind_in_query db t.term (var_kinds db q)) t.kind) (targets_of q)) (kinds_fit_in_query db (qual_of q) (var_kinds db q)) fits in
    nested may db (query_aggregates q) (reads_sources may db q reads)
    (all_two (flat_map (λ t. term_aggregates t.term) (targets_of q)) (qual_aggregates (qual_of q))
    (targets_linked db (var_kinds db q) (λ t. has_kind (kind_in_query db t.term (var_kinds db q)) t.kind) (λ t h. kind_there (kind_in_query db t.term (var_kinds db q)) t.kind h) (targets_of q) parts.0)
    (qual_linked db (qual_of q) (var_kinds db q) parts.1))

-- ---- updates

update_nests : (may : Allowed) (db : Db) (q : Query) → reads_fit may db q ≡ true → update_kinds_fit db q ≡ true → aggregates_nest_none q ≡ true
update_nests may db q reads fits =
    let outer = both_true (list_all (λ t. is_kind t.kind) (targets_of q)) _ fits in
    let parts = both_true (list_all (λ t. comparable (kind_in_query db t.term (var_kinds db q)) (Some t.kind)) (targets_of q)) (kinds_fit_in_query db (qual_of q) (var_kinds db q)) outer.1 in
    nested may db (query_aggregates q) (reads_sources may db q reads)
    (all_two (flat_map (λ t. term_aggregates t.term) (targets_of q)) (qual_aggregates (qual_of q))
    (targets_linked db (var_kinds db q) (λ t. comparable (kind_in_query db t.term (var_kinds db q)) (Some t.kind))
    (λ t h. (compared_there (kind_in_query db t.term (var_kinds db q)) (Some t.kind) h).0) (targets_of q) parts.0)
    (qual_linked db (qual_of q) (var_kinds db q) parts.1))

-- a base relation is no view
abbrev ranged : Option Relation → Option View → Option Relation → Option Range
ranged r v c = elim r [
  | Some relation ↦ Some (Kept relation)
  | None ↦ elim v [ Some view ↦ Some (Viewed view) | None ↦ option_map Kept c ]
]

relation_no_view : (db : Db) (key : RelKey) → is_relation db key ≡ true → is_no_view (range_at db key) ≡ true
unfolding range_at
relation_no_view db key h = by (relation_at db key) h
  where
    by : (r : Option Relation) → is_some r ≡ true → is_no_view (ranged r (view_at db key) (catalogue_at db key)) ≡ true
    by (Some relation) h = refl
    by None h = cc h

key_is : (o : Option RelKey) (rel key : RelKey) → is_this_key o rel ≡ true → o ≡ Some key → key ≡ rel
key_is None rel key h e = cc h
key_is (Some k) rel key h e = let same : k ≡ key = cc e in sym same ∙ same_key-exact k rel h

over_by : (db : Db) (rel : RelKey) (o : Option RelKey) (v : ℕ) (key : RelKey) → (is_relation db rel && is_this_key o rel) ≡ true → o ≡ Some key → is_no_view (range_at db key) ≡ true
over_by db rel o v key h e =
    let parts = both_true (is_relation db rel) (is_this_key o rel) h in
    ap (λ k. is_no_view (range_at db k)) (key_is o rel key parts.1 e) ∙ relation_no_view db rel parts.0

over_op : (db : Db) (u : Update) (o : UpdateOp) → relation_fits db (record u { op = o }) ≡ true → IsOverNoView db (record u { op = o })
over_op db u op.Append h v key there c = cc c
over_op db u op.Into h v key there c = cc c
over_op db u op.Replace h v key there c =
    let same : u.old ≡ v = grind (arith, nat_tests, c) in
    over_by db u.rel (slice_get (vars_of u.query) u.old) v key h (ap (slice_get (vars_of u.query)) same ∙ there)
over_op db u op.Delete h v key there c =
    let same : u.old ≡ v = grind (arith, nat_tests, c) in
    over_by db u.rel (slice_get (vars_of u.query) u.old) v key h (ap (slice_get (vars_of u.query)) same ∙ there)

-- an update nests no aggregates and changes no view
pub record IsSound (db : Db) (u : Update) : Type 0 where
  pub nests : aggregates_nest_none u.query ≡ true
  pub over : IsOverNoView db u

pub update_sound : (may : Allowed) (db : Db) (u : Update) → update_fits may db u ≡ true → IsSound db u
unfolding update_fits
update_sound may db u h =
    let one = both_true (reads_fit may db u.query) _ h in
    let two = both_true (update_kinds_fit db u.query) _ one.1 in
    let three = both_true (assignments_fit db u) _ two.1 in
    let four = both_true _ (places_fit db u && (checks_fit db u && relation_fits db u)) three.1 in
    let five = both_true (places_fit db u) (checks_fit db u && relation_fits db u) four.1 in
    let six = both_true (checks_fit db u) (relation_fits db u) five.1 in
    record { nests = update_nests may db u.query one.0 two.0; over = over_op db u u.op six.1 }
