-- How deep a query is where no aggregate stands in it.
use Rattle.std.proofs.Common.{◌≡◌, refl, ap₂, ◌+◌, max, []}
use Rattle.std.specs.List.{flat_map}
use Rattle.calculus.specs.declared.query.Query.{Query, Query', Row_of-Target, end_of-Target, more_of-Target, items-the_row-Target}
use Rattle.calculus.specs.declared.query.Target.{Target}
use Rattle.calculus.specs.QueryParts.{term_aggregates, qual_aggregates, query_aggregates, targets_of, qual_of}
use Rattle.calculus.specs.TreeLevels.{query_levels, greatest_target_levels}
use Rattle.quel_meaning.proofs.KindFacts.{none_before, none_behind}
use Rattle.view_sizes.specs.Sized.{greatest_depth, qual_depth}
use Rattle.view_sizes.proofs.DepthForms.{term_alone, qual_alone}

greatest_alone : {n : _} → (row : Row_of-Target n) → flat_map (λ (t : Target). term_aggregates t.term) (items-the_row-Target n row) ≡ [] → greatest_depth (items-the_row-Target n row) ≡ greatest_target_levels row
greatest_alone end_of-Target h = refl
greatest_alone (more_of-Target name kind term rest) h =
    ap₂ max (term_alone term (none_before (term_aggregates term) _ h)) (greatest_alone rest (none_behind (term_aggregates term) _ h))

pub query_alone : (q : Query) → query_aggregates q ≡ [] → 1 + max (greatest_depth (targets_of q)) (qual_depth (qual_of q)) ≡ query_levels q
query_alone (Query' vars marks targets qual) h =
    ap₂ (λ m n. 1 + max m n) (greatest_alone targets (none_before _ (qual_aggregates qual) h))
    (qual_alone qual (none_behind (flat_map (λ (t : Target). term_aggregates t.term) (items-the_row-Target _ targets)) _ h))
