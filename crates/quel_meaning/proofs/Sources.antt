-- What the aggregates of a resolved statement are over.
use Rattle.std.proofs.Common.{◌≡◌, refl, sym, ap, subst, ℕ, ◌+◌, nat_le, true, ◌&&◌, not, List, [], ◌∷◌, ◌++◌, map, length, None, append-nil}
use Rattle.std.specs.List.{list_all, flat_map}
use Rattle.std.proofs.lemmas.Grind.{flat_map-append}
use Rattle.calculus.proofs.Forms.{items_of_targets}
use Rattle.calculus.specs.declared.query.QAgg.{QAgg}
use Rattle.calculus.specs.declared.query.Target.{Target}
use Rattle.calculus.specs.declared.statement.AggTerm.{AggTerm}
use Rattle.calculus.specs.declared.statement.Term.{Term, Int, Chars, Attr, Agg', Row_of-Term, end_of-Term, more_of-Term, items-the_row-Term, Row_of-AggTerm, end_of-AggTerm, more_of-AggTerm}
use Rattle.calculus.specs.declared.statement.Qual.{Qual, True, Cmp}
use Rattle.calculus.specs.declared.statement.Item.{Item}
use Rattle.calculus.specs.declared.statement.Item.TheVariants as item
use Rattle.calculus.specs.declared.statement.Statement.{Statement}
use Rattle.calculus.specs.declared.statement.Statement.TheVariants as statement
use Rattle.calculus.specs.Written.{neg, abs, operation, concat, both, either, negated}
use Rattle.calculus.specs.QueryParts.{term_aggregates, qual_aggregates}
use Rattle.calculus.specs.Sizes.{measure_of}
use Rattle.calculus.specs.Stored.{attrs_in}
use Rattle.quel_meaning.specs.Scope.{Scope, ranged, key_found}
use Rattle.quel_meaning.specs.WrittenParts.{Dotted, attributes, attributes_in_row, attributes_in_qual, attributes_in_aggregate, aggregate_vars, aggregate_of, aggregates_in, aggregates_in_qual, aggregates_in_item, text_aggregates, items_of, where_of, vars_in}
use Rattle.quel_meaning.specs.Aggregates.{is_one_plain, holds_another, aggregate_allowed}
use Rattle.quel_meaning.specs.Naming.{Mention, dotted, AttrIn, AttrOf, item_mentions, query_mentions, new_title, mentions, name_refusal}
use Rattle.quel_meaning.specs.WrittenTree.{Vars, var_place, first_var, term_tree, aggregate_tree, qual_tree}
use Rattle.quel_meaning.specs.WrittenQuery.{item_targets, targets_from, where_tree, query_of}
use Rattle.quel_meaning.specs.FitQueries.{can_be_ranged_over, kept_or_viewed, source_fits, sources_fit}
use Rattle.quel_meaning.proofs.Each.{Each, front_of, back_of, both_of, in_map, of_flat_map, each_to, passed, each_passes, and, right}
use Rattle.quel_meaning.proofs.Found.{IsFound, IsRanged, names_found, ranged_named, dotted_ranged, in_once}
use Rattle.quel_meaning.proofs.Slots.{compared_has, in_targets, none_in_attrs}

-- ---- the attributes of a statement are found

abbrev pub item_attributes : Item → List Dotted
item_attributes (item.Set name term) = attributes term
item_attributes (item.Attr var attr) = []
item_attributes (item.All var) = []

-- variables are ranged over
abbrev pub AreRanged : Scope → List Dotted → Type 0
AreRanged s ds = Each (λ d. IsRanged s d.0) ds

pub record PartsRanged (s : Scope) (items : List Item) (q : Qual) : Type 0 where
  pub in_items : Each (λ i. AreRanged s (item_attributes i)) items
  pub in_where : AreRanged s (attributes_in_qual q)

item_parts : (s : Scope) (titled : List ℕ → List Mention) (i : Item) → Each (IsFound s) (item_mentions s titled i) → AreRanged s (item_attributes i)
item_parts s titled (item.Set name term) h = dotted_ranged s (attributes term) (back_of _ (titled name) _ h)
item_parts s titled (item.Attr var attr) h = tt
item_parts s titled (item.All var) h = tt

query_parts : (s : Scope) (titled : List ℕ → List Mention) (items : List Item) (q : Qual) → Each (IsFound s) (query_mentions s titled items q) → PartsRanged s items q
query_parts s titled items q h = record {
  in_items = each_to _ _ (λ i. item_parts s titled i) items (of_flat_map _ (item_mentions s titled) items (front_of _ _ _ h));
  in_where = dotted_ranged s (attributes_in_qual q) (back_of _ (flat_map (item_mentions s titled) items) _ h);
}

where_parts : (s : Scope) (q : Qual) → Each (IsFound s) (dotted (attributes_in_qual q)) → PartsRanged s [] q
where_parts s q h = record { in_items = tt; in_where = dotted_ranged s (attributes_in_qual q) h }

no_parts : (s : Scope) → PartsRanged s [] True
no_parts s = record { in_items = tt; in_where = tt }

pub parts_ranged : (s : Scope) (stmt : Statement) → name_refusal s stmt ≡ None → PartsRanged s (items_of stmt) (where_of stmt)
unfolding mentions
parts_ranged s stmt h = go stmt (names_found s stmt h)
  where
    go : (stmt : Statement) → Each (IsFound s) (mentions s stmt) → PartsRanged s (items_of stmt) (where_of stmt)
    go (statement.Retrieve into items qual sort) h = query_parts s new_title items qual h
    go (statement.Append rel items qual) h = query_parts s (λ a. AttrIn rel a ∷ []) items qual h.1
    go (statement.Replace var items qual) h = query_parts s (λ a. AttrOf var a ∷ []) items qual h.1
    go (statement.Delete var qual) h = where_parts s qual h.1
    go (statement.View name items qual) h = query_parts s new_title items qual h
    go (statement.Permit ops var attrs user qual) h = where_parts s qual (back_of _ (map (AttrOf var) attrs) _ h.1)
    go (statement.Rule var qual) h = where_parts s qual h.1
    go (statement.Range var rel) h = no_parts s
    go (statement.Create rel attrs) h = no_parts s
    go (statement.Destroy rels) h = no_parts s
    go (statement.DropPermits rel numbers) h = no_parts s
    go (statement.DropRules rel numbers) h = no_parts s
    go (statement.Modify rel to keys) h = no_parts s
    go (statement.Index base name keys) h = no_parts s
    go (statement.Print rels) h = no_parts s
    go (statement.Help rel) h = no_parts s
    go (statement.Copy rel columns from file) h = no_parts s

-- ---- sources

-- an aggregate of a text may stand
abbrev Stands : Scope → AggTerm → Type 0
Stands s g = aggregate_allowed s g ≡ true

-- the source of an aggregate of a tree is allowed
abbrev pub IsAllowed : Scope → QAgg → Type 0
IsAllowed s g = source_fits (kept_or_viewed s.db) s.db g.source ≡ true

row_list : {n : _} → (row : Row_of-Term n) → attributes_in_row row ≡ flat_map attributes (items-the_row-Term _ row)
row_list end_of-Term = refl
row_list (more_of-Term t rest) = ap (λ ds. attributes t ++ ds) (row_list rest)

one_plain : (s : Scope) (vars : List (List ℕ)) → Each (IsRanged s) vars → is_one_plain s vars ≡ true
    → (can_be_ranged_over s.db (key_found (ranged s (first_var vars))) && nat_le (measure_of s.db (key_found (ranged s (first_var vars)))).variables 1) ≡ true
one_plain s [] h k = absurd (cc k)
one_plain s (var ∷ []) h k = and _ _ (ranged_named s var h.0) k
one_plain s (var ∷ other ∷ more) h k = absurd (cc k)

of_row : (s : Scope) (vars : Vars) (n : ℕ) → {m : _} → (row : Row_of-AggTerm m) → AreRanged s (attributes_in_aggregate row) → Each (Stands s) (aggregate_of row)
    → Each (IsAllowed s) (term_aggregates (aggregate_tree s vars n row))
unfolding term_aggregates source_fits aggregate_allowed aggregate_vars
of_row s vars n end_of-AggTerm h k = tt
of_row s vars n (more_of-AggTerm op arg bys by qual rest) h k = (one_plain s _ over (right (not (holds_another g)) _ k.0), tt)
  where
    g : AggTerm
    g = record { op = op; arg = arg; by = items-the_row-Term _ by; qual = qual }

    over : Each (IsRanged s) (aggregate_vars g)
    over = in_once (IsRanged s) _ (in_map (IsRanged s) (λ (d : Dotted). d.0) _ (subst (λ ds. AreRanged s (attributes arg ++ (ds ++ attributes_in_qual qual))) (row_list by) h))

of_term : (s : Scope) (vars : Vars) (n : ℕ) (t : Term) → AreRanged s (attributes t) → Each (Stands s) (aggregates_in t)
    → Each (IsAllowed s) (term_aggregates (term_tree s vars n t))
unfolding term_aggregates aggregates_in
of_term s vars n (Int number) h k = tt
of_term s vars n (Chars bytes) h k = tt
of_term s vars n (Attr var attr) h k = tt
of_term s vars n (neg t) h k = of_term s vars n t h k
of_term s vars n (abs t) h k = of_term s vars n t h k
of_term s vars n (operation op t u) h k =
    both_of _ (term_aggregates (term_tree s vars n t)) _
    (of_term s vars n t (front_of _ (attributes t) (attributes u) h) (front_of _ (aggregates_in t) (aggregates_in u) k))
    (of_term s vars (n + length (aggregates_in t)) u (back_of _ (attributes t) (attributes u) h) (back_of _ (aggregates_in t) (aggregates_in u) k))
of_term s vars n (concat t u) h k =
    both_of _ (term_aggregates (term_tree s vars n t)) _
    (of_term s vars n t (front_of _ (attributes t) (attributes u) h) (front_of _ (aggregates_in t) (aggregates_in u) k))
    (of_term s vars (n + length (aggregates_in t)) u (back_of _ (attributes t) (attributes u) h) (back_of _ (aggregates_in t) (aggregates_in u) k))
of_term s vars n (Agg' mark row) h k = of_row s vars n row h k

of_qual : (s : Scope) (vars : Vars) (n : ℕ) (q : Qual) → AreRanged s (attributes_in_qual q) → Each (Stands s) (aggregates_in_qual q)
    → Each (IsAllowed s) (qual_aggregates (qual_tree s vars n q))
unfolding qual_aggregates aggregates_in_qual
of_qual s vars n True h k = tt
of_qual s vars n (Cmp op t u) h k =
    subst (Each (IsAllowed s)) (sym (compared_has op (term_tree s vars n t) (term_tree s vars (n + length (aggregates_in t)) u)))
    (both_of _ (term_aggregates (term_tree s vars n t)) _
    (of_term s vars n t (front_of _ (attributes t) (attributes u) h) (front_of _ (aggregates_in t) (aggregates_in u) k))
    (of_term s vars (n + length (aggregates_in t)) u (back_of _ (attributes t) (attributes u) h) (back_of _ (aggregates_in t) (aggregates_in u) k)))
of_qual s vars n (both p q) h k =
    both_of _ (qual_aggregates (qual_tree s vars n p)) _
    (of_qual s vars n p (front_of _ (attributes_in_qual p) (attributes_in_qual q) h) (front_of _ (aggregates_in_qual p) (aggregates_in_qual q) k))
    (of_qual s vars (n + length (aggregates_in_qual p)) q (back_of _ (attributes_in_qual p) (attributes_in_qual q) h) (back_of _ (aggregates_in_qual p) (aggregates_in_qual q) k))
of_qual s vars n (either p q) h k =
    both_of _ (qual_aggregates (qual_tree s vars n p)) _
    (of_qual s vars n p (front_of _ (attributes_in_qual p) (attributes_in_qual q) h) (front_of _ (aggregates_in_qual p) (aggregates_in_qual q) k))
    (of_qual s vars (n + length (aggregates_in_qual p)) q (back_of _ (attributes_in_qual p) (attributes_in_qual q) h) (back_of _ (aggregates_in_qual p) (aggregates_in_qual q) k))
of_qual s vars n (negated p) h k = of_qual s vars n p h k

of_item : (s : Scope) (vars : Vars) (n : ℕ) (i : Item) → AreRanged s (item_attributes i) → Each (Stands s) (aggregates_in_item i)
    → Each (IsAllowed s) (in_targets (item_targets s vars n i))
unfolding term_aggregates
of_item s vars n (item.Set name term) h k = subst (Each (IsAllowed s)) (sym (append-nil (term_aggregates (term_tree s vars n term)))) (of_term s vars n term h k)
of_item s vars n (item.Attr var attr) h k = tt
of_item s vars n (item.All var) h k = subst (Each (IsAllowed s)) (sym (none_in_attrs (var_place vars var) 0 (attrs_in (ranged s var)))) tt

of_items : (s : Scope) (vars : Vars) (n : ℕ) (items : List Item) → Each (λ i. AreRanged s (item_attributes i)) items → Each (Stands s) (flat_map aggregates_in_item items)
    → Each (IsAllowed s) (in_targets (targets_from s vars n items))
of_items s vars n [] h k = tt
of_items s vars n (i ∷ items) h k =
    subst (Each (IsAllowed s)) (sym (flat_map-append (λ (t : Target). term_aggregates t.term) (item_targets s vars n i) _))
    (both_of _ (in_targets (item_targets s vars n i)) _
    (of_item s vars n i h.0 (front_of _ (aggregates_in_item i) _ k))
    (of_items s vars (n + length (aggregates_in_item i)) items h.1 (back_of _ (aggregates_in_item i) _ k)))

-- the aggregates of a statement's query are over what is allowed, where they may stand and its names were found
pub sources_allowed : (s : Scope) (stmt : Statement) → name_refusal s stmt ≡ None → list_all (aggregate_allowed s) (text_aggregates stmt) ≡ true
    → sources_fit (kept_or_viewed s.db) s.db (query_of s stmt) ≡ true
unfolding query_of where_tree
sources_allowed s stmt h k =
    passed (λ (g : QAgg). source_fits (kept_or_viewed s.db) s.db g.source) _
    (subst (λ ts. Each (IsAllowed s) (in_targets ts ++ qual_aggregates (where_tree s stmt))) (sym (items_of_targets (targets_from s (vars_in stmt) 0 (items_of stmt))))
    (both_of _ (in_targets (targets_from s (vars_in stmt) 0 (items_of stmt))) _
    (of_items s (vars_in stmt) 0 (items_of stmt) parts.in_items (front_of _ (flat_map aggregates_in_item (items_of stmt)) _ standing))
    (of_qual s (vars_in stmt) _ (where_of stmt) parts.in_where (back_of _ (flat_map aggregates_in_item (items_of stmt)) _ standing))))
  where
    parts : PartsRanged s (items_of stmt) (where_of stmt)
    parts = parts_ranged s stmt h

    standing : Each (Stands s) (text_aggregates stmt)
    standing = each_passes (aggregate_allowed s) (text_aggregates stmt) k
