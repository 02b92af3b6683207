-- The tree that a statement is resolved to which is read is short.
use Rattle.std.proofs.Common.{◌≡◌, refl, sym, ap, ◌∙◌, subst, ℕ, suc, ◌+◌, ◌≤◌, true, false, List, [], ◌∷◌, ◌++◌, map, length, Option, Some, None, Ok, arith}
use Rattle.std.specs.Prelude.{flat_map, filter_map, nat_lt}
use Rattle.std.specs.List.{cons_option}
use Rattle.std.proofs.lemmas.Bool.{and_parts, ltb-false}
use Rattle.std.proofs.lemmas.List.{length-map}
use Rattle.calculus.specs.declared.query.QAgg.{QAgg}
use Rattle.calculus.specs.declared.query.Query.{Query}
use Rattle.calculus.specs.declared.query.QTerm.{QTerm, items-the_row-QTerm}
use Rattle.calculus.specs.declared.query.Target.{Target}
use Rattle.calculus.specs.declared.request.Checked.{Checked}
use Rattle.calculus.specs.declared.schema.RelInfo.{RelInfo}
use Rattle.calculus.specs.declared.statement.Item.{Item}
use Rattle.calculus.specs.declared.statement.Item.TheVariants as item
use Rattle.calculus.specs.declared.statement.Qual.{Qual, True, Cmp}
use Rattle.calculus.specs.declared.statement.Statement.{Statement}
use Rattle.calculus.specs.declared.statement.Statement.TheVariants as statement
use Rattle.calculus.specs.declared.statement.Term.{Term, Int, Chars, Attr as Dot, Agg', items-the_row-Term, Row_of-Term, end_of-Term, more_of-Term, Row_of-AggTerm, end_of-AggTerm, more_of-AggTerm}
use Rattle.calculus.specs.Database.{Db}
use Rattle.calculus.specs.IsDatabase.{IsDatabase}
use Rattle.calculus.specs.Limits.{most_variables}
use Rattle.calculus.specs.Name.{is_name}
use Rattle.calculus.specs.QueryParts.{targets_of, term_aggregates, qual_aggregates, query_aggregates}
use Rattle.calculus.specs.Replacement.{first_refusal}
use Rattle.calculus.specs.Stored.{attrs_in}
use Rattle.calculus.specs.Tree as tree
use Rattle.calculus.specs.Written.{neg, abs, operation, concat, both, either, negated}
use Rattle.calculus.proofs.Forms.{items_of_targets}
use Rattle.quel_meaning.specs.Causes.{refusals}
use Rattle.quel_meaning.specs.Fit.{suits, fits}
use Rattle.quel_meaning.specs.FitQueries.{kept_or_viewed}
use Rattle.quel_meaning.specs.IsWritten.{is_written}
use Rattle.quel_meaning.specs.Passing.{has_too_many, is_full, listed_variables}
use Rattle.quel_meaning.specs.Ranges.{Ranges}
use Rattle.quel_meaning.specs.Resolved.{whole, sort_key, help_on_all, help_on, tree_of, resolved}
use Rattle.quel_meaning.specs.Scope.{Scope, named, ranged, entry_named}
use Rattle.quel_meaning.specs.SpelledTree.{tree_is_spelled}
use Rattle.quel_meaning.specs.StatementUpdate.{append_of, replace_of, delete_of, into_of}
use Rattle.quel_meaning.specs.WrittenParts.{aggregate_vars, aggregate_of, aggregates_in, aggregates_in_qual, aggregates_in_item, text_aggregates, items_of, where_of, vars_in}
use Rattle.quel_meaning.specs.WrittenQuery.{attr_targets, item_targets, targets_from, where_tree, query_of}
use Rattle.quel_meaning.specs.WrittenTree.{Vars, var_place, term_tree, aggregate_tree, row_trees, qual_tree}
use Rattle.quel_meaning.proofs.Accepted.{scope, accepted}
use Rattle.quel_meaning.proofs.Each.{Each, front_of, back_of, both_of, of_flat_map, in_flat_map, not_left}
use Rattle.quel_meaning.proofs.FitResolved.{resolved_fits}
use Rattle.quel_meaning.proofs.ReadsFit.{none_of}
use Rattle.quel_meaning.proofs.Slots.{compared_has, in_targets, none_in_attrs}
use Rattle.spelling_laws.specs.Short.{is_number, tree_is_short}
use Rattle.spelling_laws.proofs.Grammar.{FewBy, FewParts}
use Rattle.spelling_laws.proofs.Numbers.{short_is}
use Rattle.spelling_laws.proofs.Queries.{FewIn, viewed_ranged}
use Rattle.spelling_laws.proofs.Trees.{FewAsked, FewTree, fewer, tree_short}

-- an aggregate of a tree has at most so many grouping terms
abbrev pub FewGroups : ℕ → QAgg → Type 0
FewGroups n g = length g.by ≤ n

-- ---- terms and qualifications

long_row : (ts : List QTerm) → length (items-the_row-QTerm _ (tree.term_row ts)) ≡ length ts
long_row [] = refl
long_row (t ∷ ts) = ap suc (long_row ts)

long_trees : (s : Scope) (vars : Vars) {m : _} (row : Row_of-Term m) → length (row_trees s vars row) ≡ length (items-the_row-Term _ row)
long_trees s vars end_of-Term = refl
long_trees s vars (more_of-Term t rest) = ap suc (long_trees s vars rest)

few_made : (k : ℕ) (s : Scope) (inner : Vars) {m : _} (by : Row_of-Term m) → length (items-the_row-Term _ by) ≤ k → length (items-the_row-QTerm _ (tree.term_row (row_trees s inner by))) ≤ k
few_made k s inner by h = let a = long_row (row_trees s inner by) in let b = long_trees s inner by in omega (arith, a, b, h)

module _ (k : ℕ) (s : Scope) where
  of_row : (vars : Vars) (n : ℕ) {m : _} (row : Row_of-AggTerm m) → Each (FewBy k) (aggregate_of row) → Each (FewGroups k) (term_aggregates (aggregate_tree s vars n row))
  unfolding term_aggregates
  of_row vars n end_of-AggTerm h = tt
  of_row vars n (more_of-AggTerm op arg bys by qual rest) h =
      (few_made k s (aggregate_vars (record { op = op; arg = arg; by = items-the_row-Term _ by; qual = qual })) by h.0, tt)

  of_term : (vars : Vars) (n : ℕ) (t : Term) → Each (FewBy k) (aggregates_in t) → Each (FewGroups k) (term_aggregates (term_tree s vars n t))
  unfolding term_aggregates aggregates_in
  of_term vars n (Int number) h = tt
  of_term vars n (Chars bytes) h = tt
  of_term vars n (Dot var attr) h = tt
  of_term vars n (neg t) h = of_term vars n t h
  of_term vars n (abs t) h = of_term vars n t h
  of_term vars n (operation op t u) h =
      both_of (FewGroups k) (term_aggregates (term_tree s vars n t)) (term_aggregates (term_tree s vars (n + length (aggregates_in t)) u))
      (of_term vars n t (front_of (FewBy k) (aggregates_in t) (aggregates_in u) h)) (of_term vars (n + length (aggregates_in t)) u (back_of (FewBy k) (aggregates_in t) (aggregates_in u) h))
  of_term vars n (concat t u) h =
      both_of (FewGroups k) (term_aggregates (term_tree s vars n t)) (term_aggregates (term_tree s vars (n + length (aggregates_in t)) u))
      (of_term vars n t (front_of (FewBy k) (aggregates_in t) (aggregates_in u) h)) (of_term vars (n + length (aggregates_in t)) u (back_of (FewBy k) (aggregates_in t) (aggregates_in u) h))
  of_term vars n (Agg' mark row) h = of_row vars n row h

  of_qual : (vars : Vars) (n : ℕ) (q : Qual) → Each (FewBy k) (aggregates_in_qual q) → Each (FewGroups k) (qual_aggregates (qual_tree s vars n q))
  unfolding qual_aggregates aggregates_in_qual
  of_qual vars n True h = tt
  of_qual vars n (Cmp op t u) h =
      subst (λ gs. Each (FewGroups k) gs) (sym (compared_has op (term_tree s vars n t) (term_tree s vars (n + length (aggregates_in t)) u)))
      (both_of (FewGroups k) (term_aggregates (term_tree s vars n t)) (term_aggregates (term_tree s vars (n + length (aggregates_in t)) u))
      (of_term vars n t (front_of (FewBy k) (aggregates_in t) (aggregates_in u) h)) (of_term vars (n + length (aggregates_in t)) u (back_of (FewBy k) (aggregates_in t) (aggregates_in u) h)))
  of_qual vars n (both p q) h =
      both_of (FewGroups k) (qual_aggregates (qual_tree s vars n p)) (qual_aggregates (qual_tree s vars (n + length (aggregates_in_qual p)) q))
      (of_qual vars n p (front_of (FewBy k) (aggregates_in_qual p) (aggregates_in_qual q) h)) (of_qual vars (n + length (aggregates_in_qual p)) q (back_of (FewBy k) (aggregates_in_qual p) (aggregates_in_qual q) h))
  of_qual vars n (either p q) h =
      both_of (FewGroups k) (qual_aggregates (qual_tree s vars n p)) (qual_aggregates (qual_tree s vars (n + length (aggregates_in_qual p)) q))
      (of_qual vars n p (front_of (FewBy k) (aggregates_in_qual p) (aggregates_in_qual q) h)) (of_qual vars (n + length (aggregates_in_qual p)) q (back_of (FewBy k) (aggregates_in_qual p) (aggregates_in_qual q) h))
  of_qual vars n (negated p) h = of_qual vars n p h

  -- ---- target lists

  in_joined : (xs ys : List Target) → Each (FewGroups k) (in_targets xs) → Each (FewGroups k) (in_targets ys) → Each (FewGroups k) (in_targets (xs ++ ys))
  in_joined xs ys h l =
      in_flat_map (FewGroups k) (λ (t : Target). term_aggregates t.term) (xs ++ ys)
      (both_of (λ (t : Target). Each (FewGroups k) (term_aggregates t.term)) xs ys (of_flat_map (FewGroups k) (λ (t : Target). term_aggregates t.term) xs h) (of_flat_map (FewGroups k) (λ (t : Target). term_aggregates t.term) ys l))

  of_item : (vars : Vars) (n : ℕ) (i : Item) → Each (FewBy k) (aggregates_in_item i) → Each (FewGroups k) (in_targets (item_targets s vars n i))
  unfolding term_aggregates
  of_item vars n (item.Set name term) h = both_of (FewGroups k) (term_aggregates (term_tree s vars n term)) [] (of_term vars n term h) tt
  of_item vars n (item.Attr var attr) h = tt
  of_item vars n (item.All var) h = subst (λ gs. Each (FewGroups k) gs) (sym (none_in_attrs (var_place vars var) 0 (attrs_in (ranged s var)))) tt

  of_items : (vars : Vars) (n : ℕ) (items : List Item) → Each (FewBy k) (flat_map aggregates_in_item items) → Each (FewGroups k) (in_targets (targets_from s vars n items))
  of_items vars n [] h = tt
  of_items vars n (i ∷ items) h =
      in_joined (item_targets s vars n i) (targets_from s vars (n + length (aggregates_in_item i)) items)
      (of_item vars n i (front_of (FewBy k) (aggregates_in_item i) (flat_map aggregates_in_item items) h))
      (of_items vars (n + length (aggregates_in_item i)) items (back_of (FewBy k) (aggregates_in_item i) (flat_map aggregates_in_item items) h))

  pub of_query : (stmt : Statement) → Each (FewBy k) (text_aggregates stmt) → Each (FewGroups k) (query_aggregates (query_of s stmt))
  unfolding query_of where_tree
  of_query stmt h =
      subst (λ ts. Each (FewGroups k) (in_targets ts ++ qual_aggregates (where_tree s stmt))) (sym (items_of_targets (targets_from s (vars_in stmt) 0 (items_of stmt))))
      (both_of (FewGroups k) (in_targets (targets_from s (vars_in stmt) 0 (items_of stmt))) (qual_aggregates (where_tree s stmt))
      (of_items (vars_in stmt) 0 (items_of stmt) (front_of (FewBy k) (flat_map aggregates_in_item (items_of stmt)) (aggregates_in_qual (where_of stmt)) h))
      (of_qual (vars_in stmt) (length (flat_map aggregates_in_item (items_of stmt))) (where_of stmt) (back_of (FewBy k) (flat_map aggregates_in_item (items_of stmt)) (aggregates_in_qual (where_of stmt)) h)))

-- ---- trees

few_listed : (db : Db) (q : Query) → has_too_many db q ≡ false → length (query_aggregates q) ≤ 10
unfolding has_too_many
few_listed db q h = let few = ltb-false most_variables (listed_variables q) (not_left (nat_lt most_variables (listed_variables q)) _ h) in omega (arith, few)

more_groups : (gs : List QAgg) → Each (FewGroups 500) gs → Each (λ (g : QAgg). length g.by ≤ 65535) gs
more_groups [] h = tt
more_groups (g ∷ gs) h = let few = h.0 in (omega (arith, few), more_groups gs h.1)

few_none : (q : Query) → query_aggregates q ≡ [] → FewIn q
few_none q e = record { number = subst (λ gs. length gs ≤ 65536) (sym e) (omega arith); groups = subst (λ gs. Each (λ (g : QAgg). length g.by ≤ 65535) gs) (sym e) tt }

few_filtered : {A B : Type 0} (f : A → Option B) (xs : List A) → length (filter_map f xs) ≤ length xs
few_filtered f [] = omega arith
few_filtered {A} {B} f (x ∷ xs) = go (f x) (few_filtered f xs)
  where
    go : (o : Option B) → length (filter_map f xs) ≤ length xs → length (cons_option o (filter_map f xs)) ≤ suc (length xs)
    go (Some y) h = omega (arith, h)
    go None h = omega (arith, h)

whole_few : (info : Option RelInfo) → FewAsked (whole info)
unfolding qual_aggregates
whole_few info = record {
  query = few_none (whole info).query (ap (λ ts. in_targets ts ++ []) (items_of_targets (attr_targets 0 (attrs_in info))) ∙ ap (λ gs. gs ++ []) (none_in_attrs 0 0 (attrs_in info)));
  sort = omega arith;
}

all_few : (s : Scope) (stmt : Statement) → Each (FewBy 500) (text_aggregates stmt) → has_too_many s.db (query_of s stmt) ≡ false → FewIn (query_of s stmt)
all_few s stmt h few =
    let number = few_listed s.db (query_of s stmt) few in
    record { number = omega (arith, number); groups = more_groups (query_aggregates (query_of s stmt)) (of_query 500 s stmt h) }

help_all_few : (s : Scope) → FewAsked (help_on_all s)
unfolding term_aggregates qual_aggregates
help_all_few s = record { query = few_none (help_on_all s).query refl; sort = omega arith }

help_few : (s : Scope) (info : Option RelInfo) → FewAsked (help_on s info)
unfolding term_aggregates qual_aggregates
help_few s info = record { query = few_none (help_on s info).query refl; sort = omega arith }

tree_few : (s : Scope) (stmt : Statement) → Each (FewBy 500) (text_aggregates stmt) → FewParts 500 stmt → first_refusal (refusals s stmt) ≡ None → FewTree 0 (tree_of s stmt)
unfolding tree_of refusals append_of replace_of delete_of into_of
tree_few s (statement.Range var rel) h parts none = (omega arith, tt)
tree_few s (statement.Retrieve None items qual sort) h parts none =
    let q = query_of s (statement.Retrieve None items qual sort) in
    let all = none_of (refusals s (statement.Retrieve None items qual sort)) none in
    let same = length-map sort (sort_key (targets_of q)) in
    (omega arith, (record { query = all_few s (statement.Retrieve None items qual sort) h all.1.0; sort = omega (arith, same, parts) }, tt))
tree_few s (statement.Retrieve (Some name) items qual sort) h parts none =
    let all = none_of (refusals s (statement.Retrieve (Some name) items qual sort)) none in
    (all_few s (statement.Retrieve (Some name) items qual sort) h (not_left (has_too_many s.db (query_of s (statement.Retrieve (Some name) items qual sort))) (is_full s.db) all.1.0), omega arith)
tree_few s (statement.Append rel items qual) h parts none = let all = none_of (refusals s (statement.Append rel items qual)) none in (all_few s (statement.Append rel items qual) h all.1.0, omega arith)
tree_few s (statement.Replace var items qual) h parts none = let all = none_of (refusals s (statement.Replace var items qual)) none in (all_few s (statement.Replace var items qual) h all.1.0, omega arith)
tree_few s (statement.Delete var qual) h parts none = let all = none_of (refusals s (statement.Delete var qual)) none in (all_few s (statement.Delete var qual) h all.1.0, omega arith)
tree_few s (statement.Create rel attrs) h parts none = tt
tree_few s (statement.Destroy rels) h parts none = let few = few_filtered (entry_named s) rels in omega (arith, few, parts)
tree_few s (statement.DropPermits rel numbers) h parts none = let few = parts.0 in short_is is_number numbers (omega (arith, few)) parts.1
tree_few s (statement.DropRules rel numbers) h parts none = let few = parts.0 in short_is is_number numbers (omega (arith, few)) parts.1
tree_few s (statement.Modify rel to keys) h parts none = tt
tree_few s (statement.Index base name keys) h parts none = tt
tree_few s (statement.Print rels) h parts none =
    let same = length-map rels (λ rel. whole (named s rel)) in
    (omega (arith, same, parts), each_whole rels)
  where
    each_whole : (rels : List (List ℕ)) → Each FewAsked (map (λ rel. whole (named s rel)) rels)
    each_whole [] = tt
    each_whole (rel ∷ rels) = (whole_few (named s rel), each_whole rels)
tree_few s (statement.Help None) h parts none = (omega arith, (help_all_few s, tt))
tree_few s (statement.Help (Some rel)) h parts none = (omega arith, (help_few s (named s rel), tt))
tree_few s (statement.Copy rel columns from file) h parts none = tt
tree_few s (statement.View name items qual) h parts none = tt
tree_few s (statement.Permit ops var attrs user qual) h parts none = refl
tree_few s (statement.Rule var qual) h parts none = refl

-- ---- what is resolved

module _ (db : Db) (d : IsDatabase db) (user : List ℕ) (named_user : is_name user ≡ true) (ranges : Ranges) (stmt : Statement) (written : is_written stmt ≡ true)
    (h : Each (FewBy 500) (text_aggregates stmt)) (parts : FewParts 500 stmt) (tree : Checked) (e : resolved db user ranges stmt ≡ Ok tree) where
  pub resolved_few : FewTree 0 tree
  resolved_few = let all = accepted db user ranges stmt tree e in subst (FewTree 0) all.is (tree_few (scope db user ranges) stmt h parts all.none)

  pub resolved_spelled : tree_is_spelled tree ≡ true
  unfolding fits
  resolved_spelled = (and_parts (tree_is_spelled tree) (suits (kept_or_viewed db) db user tree) (resolved_fits db user ranges stmt tree d named_user written e)).0

  pub resolved_short : tree_is_short tree ≡ true
  unfolding fits
  resolved_short =
      let both = and_parts (tree_is_spelled tree) (suits (kept_or_viewed db) db user tree) (resolved_fits db user ranges stmt tree d named_user written e) in
      let room : 0 ≤ 65535 = omega arith in
      tree_short db d (kept_or_viewed db) (viewed_ranged db) user tree both.1 both.0 (fewer 0 65535 room tree resolved_few)
