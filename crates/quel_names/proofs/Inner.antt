-- What the variables in aggregates range over.
use Rattle.std.proofs.Common.{◌≡◌, refl, ap, subst, ℕ, true, List, [], ◌∷◌, ◌++◌, None, is_some}
use Rattle.std.specs.List.{flat_map}
use Rattle.calculus.specs.declared.statement.AggTerm.{AggTerm}
use Rattle.calculus.specs.declared.statement.Item.{Item}
use Rattle.calculus.specs.declared.statement.Item.TheVariants as item
use Rattle.calculus.specs.declared.statement.Qual.{Qual, True, Cmp}
use Rattle.calculus.specs.declared.statement.Statement.{Statement}
use Rattle.calculus.specs.declared.statement.Term.{Term, Int, Chars, Attr, Agg', Row_of-Term, end_of-Term, more_of-Term, items-the_row-Term, Row_of-AggTerm, end_of-AggTerm, more_of-AggTerm}
use Rattle.calculus.specs.Written.{neg, abs, operation, concat, both, either, negated}
use Rattle.quel_check.specs.Known.{front, inner_vars}
use Rattle.quel_meaning.proofs.Each.{Each, front_of, back_of, both_of, in_map, in_flat_map, each_to, passed}
use Rattle.quel_meaning.proofs.Found.{IsRanged, ranged_is, in_once}
use Rattle.quel_meaning.proofs.Sources.{AreRanged, item_attributes, parts_ranged}
use Rattle.quel_meaning.specs.Naming.{name_refusal}
use Rattle.quel_meaning.specs.Scope.{Scope, ranged}
use Rattle.quel_meaning.specs.WrittenParts.{Dotted, aggregate_of, aggregate_vars, aggregates_in, aggregates_in_item, aggregates_in_qual, attributes, attributes_in_aggregate, attributes_in_qual, attributes_in_row, items_of, where_of, text_aggregates}
use Rattle.quel_names.specs.Ranging.{each_ranges}

-- the variables that an aggregate names are ranged over
abbrev IsInside : Scope → AggTerm → Type 0
IsInside s g = AreRanged s (attributes g.arg ++ (flat_map attributes g.by ++ attributes_in_qual g.qual))

row_list : {n : _} → (row : Row_of-Term n) → attributes_in_row row ≡ flat_map attributes (items-the_row-Term _ row)
row_list end_of-Term = refl
row_list (more_of-Term t rest) = ap (λ ds. attributes t ++ ds) (row_list rest)

of_row : (s : Scope) → {m : _} → (row : Row_of-AggTerm m) → AreRanged s (attributes_in_aggregate row) → Each (IsInside s) (aggregate_of row)
of_row s end_of-AggTerm h = tt
of_row s (more_of-AggTerm op arg bys by qual rest) h = (subst (λ ds. AreRanged s (attributes arg ++ (ds ++ attributes_in_qual qual))) (row_list by) h, tt)

of_term : (s : Scope) (t : Term) → AreRanged s (attributes t) → Each (IsInside s) (aggregates_in t)
unfolding aggregates_in
of_term s (Int n) h = tt
of_term s (Chars bytes) h = tt
of_term s (Attr var attr) h = tt
of_term s (neg t) h = of_term s t h
of_term s (abs t) h = of_term s t h
of_term s (operation op t u) h =
    both_of _ (aggregates_in t) (aggregates_in u) (of_term s t (front_of _ (attributes t) (attributes u) h)) (of_term s u (back_of _ (attributes t) (attributes u) h))
of_term s (concat t u) h =
    both_of _ (aggregates_in t) (aggregates_in u) (of_term s t (front_of _ (attributes t) (attributes u) h)) (of_term s u (back_of _ (attributes t) (attributes u) h))
of_term s (Agg' mark row) h = of_row s row h

of_qual : (s : Scope) (q : Qual) → AreRanged s (attributes_in_qual q) → Each (IsInside s) (aggregates_in_qual q)
unfolding aggregates_in_qual
of_qual s True h = tt
of_qual s (Cmp op t u) h =
    both_of _ (aggregates_in t) (aggregates_in u) (of_term s t (front_of _ (attributes t) (attributes u) h)) (of_term s u (back_of _ (attributes t) (attributes u) h))
of_qual s (both p q) h =
    both_of _ (aggregates_in_qual p) (aggregates_in_qual q) (of_qual s p (front_of _ (attributes_in_qual p) (attributes_in_qual q) h)) (of_qual s q (back_of _ (attributes_in_qual p) (attributes_in_qual q) h))
of_qual s (either p q) h =
    both_of _ (aggregates_in_qual p) (aggregates_in_qual q) (of_qual s p (front_of _ (attributes_in_qual p) (attributes_in_qual q) h)) (of_qual s q (back_of _ (attributes_in_qual p) (attributes_in_qual q) h))
of_qual s (negated p) h = of_qual s p h

of_item : (s : Scope) (i : Item) → AreRanged s (item_attributes i) → Each (IsInside s) (aggregates_in_item i)
of_item s (item.Set name term) h = of_term s term h
of_item s (item.Attr var attr) h = tt
of_item s (item.All var) h = tt

inside : (s : Scope) (stmt : Statement) → name_refusal s stmt ≡ None → Each (IsInside s) (text_aggregates stmt)
inside s stmt h =
    both_of _ (flat_map aggregates_in_item (items_of stmt)) (aggregates_in_qual (where_of stmt))
    (in_flat_map _ aggregates_in_item (items_of stmt) (each_to _ _ (λ i. of_item s i) (items_of stmt) (parts_ranged s stmt h).in_items))
    (of_qual s (where_of stmt) (parts_ranged s stmt h).in_where)

in_front : (P : List ℕ → Type 0) (vars : List (List ℕ)) → Each P vars → Each P (front vars)
in_front P [] h = tt
in_front P (var ∷ vars) h = (h.0, tt)

one_inner : (s : Scope) (g : AggTerm) → IsInside s g → Each (IsRanged s) (front (aggregate_vars g))
unfolding aggregate_vars
one_inner s g h = in_front (IsRanged s) _ (in_once (IsRanged s) _ (in_map (IsRanged s) (λ (d : Dotted). d.0) _ h))

-- where no name refuses a statement, the first variable of each aggregate ranges over something
pub inner_vars_range : (s : Scope) (statement : Statement) → name_refusal s statement ≡ None → each_ranges s (inner_vars statement) ≡ true
inner_vars_range s statement h =
    passed (λ var. is_some (ranged s var)) (inner_vars statement)
    (each_to (IsRanged s) (λ var. is_some (ranged s var) ≡ true) (λ var r. ap is_some (ranged_is s var r)) (inner_vars statement)
    (in_flat_map (IsRanged s) (λ (g : AggTerm). front (aggregate_vars g)) (text_aggregates statement) (each_to _ _ (λ g. one_inner s g) (text_aggregates statement) (inside s statement h))))
