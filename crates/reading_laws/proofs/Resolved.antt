-- The tree that a statement is resolved to has at most 4 levels more than the statement.
use Rattle.std.proofs.Common.{◌≡◌, subst, ℕ, ◌+◌, ◌≤◌, max, List, [], ◌∷◌, ◌++◌, map, length, Option, Some, None, Ok, arith}
use Rattle.std.specs.List.{enumerate_from, flat_map}
use Rattle.calculus.specs.declared.query.QTerm.TheVariants as qterm
use Rattle.calculus.specs.declared.query.Target.{Target}
use Rattle.calculus.specs.declared.request.Asked.{Asked}
use Rattle.calculus.specs.declared.request.Checked.{Checked}
use Rattle.calculus.specs.declared.schema.Attr.{Attr}
use Rattle.calculus.specs.declared.schema.RelInfo.{RelInfo}
use Rattle.calculus.specs.declared.statement.Item.{Item}
use Rattle.calculus.specs.declared.statement.Item.TheVariants as item
use Rattle.calculus.specs.declared.statement.Statement.{Statement}
use Rattle.calculus.specs.declared.statement.Statement.TheVariants as statement
use Rattle.calculus.specs.Database.{Db}
use Rattle.calculus.specs.QueryParts.{qual_of}
use Rattle.calculus.specs.Stored.{attrs_in}
use Rattle.calculus.specs.Tree.{target_row}
use Rattle.calculus.specs.TreeLevels as deep
use Rattle.quel_meaning.specs.Planned.{greatest}
use Rattle.quel_meaning.specs.Ranges.{Ranges}
use Rattle.quel_meaning.specs.Resolved.{whole, help_on_all, help_on, tree_of, resolved}
use Rattle.quel_meaning.specs.Scope.{Scope, named, ranged}
use Rattle.quel_meaning.specs.StatementUpdate.{append_of, replace_of, delete_of, into_of}
use Rattle.quel_meaning.specs.WrittenParts.{aggregates_in_item, items_of, where_of, vars_in}
use Rattle.quel_meaning.specs.WrittenQuery.{attr_targets, item_targets, targets_from, where_tree, query_of}
use Rattle.quel_meaning.specs.WrittenTree.{Vars, var_place}
use Rattle.quel_meaning.proofs.Accepted.{scope, accepted}
use Rattle.quel_meaning.proofs.Each.{Each, both_of, each_to}
use Rattle.reading_laws.specs.Levels.{tree_levels}
use Rattle.reading_laws.specs.Shallow.{item_levels, qual_levels, statement_levels}
use Rattle.reading_laws.proofs.Trees.{same, at_most, first, second, two_above, term_shallow, qual_shallow}

-- ---- targets

-- the term of each of these targets has at most so many levels
abbrev AreShallow : ℕ → List Target → Type 0
AreShallow n ts = Each (λ (t : Target). deep.term_levels t.term ≤ n) ts

deeper : (m n : ℕ) (ts : List Target) → m ≤ n → AreShallow m ts → AreShallow n ts
deeper m n ts h = each_to (λ (t : Target). deep.term_levels t.term ≤ m) (λ (t : Target). deep.term_levels t.term ≤ n) (λ (t : Target) k. at_most (deep.term_levels t.term) m n k h) ts

both_shallow : (n : ℕ) (ts us : List Target) → AreShallow n ts → AreShallow n us → AreShallow n (ts ++ us)
both_shallow n ts us h k = both_of (λ (t : Target). deep.term_levels t.term ≤ n) ts us h k

no_more : (m k n : ℕ) → m ≤ n → k ≤ n → max m k ≤ n
no_more m k n h g = omega (arith, h, g)

targets_shallow : (n : ℕ) (ts : List Target) → AreShallow n ts → deep.greatest_target_levels (target_row ts) ≤ n
targets_shallow n [] h = omega arith
targets_shallow n (t ∷ ts) h = no_more (deep.term_levels t.term) (deep.greatest_target_levels (target_row ts)) n h.0 (targets_shallow n ts h.1)

attrs_shallow : (var k : ℕ) (attrs : List Attr) → AreShallow 1 (map (λ (p : ℕ × Attr). record { name = p.1.name; kind = p.1.kind; term = qterm.Attr var p.0 }) (enumerate_from k attrs))
attrs_shallow var k [] = tt
attrs_shallow var k (a ∷ attrs) = (same 1, attrs_shallow var (k + 1) attrs)

item_shallow : (s : Scope) (vars : Vars) (n : ℕ) (i : Item) → AreShallow (item_levels i) (item_targets s vars n i)
item_shallow s vars n (item.Set name term) = (term_shallow s vars n term, tt)
item_shallow s vars n (item.Attr var attr) = (same 1, tt)
item_shallow s vars n (item.All var) = attrs_shallow (var_place vars var) 0 (attrs_in (ranged s var))

items_shallow : (s : Scope) (vars : Vars) (n : ℕ) (items : List Item) → AreShallow (greatest (map item_levels items)) (targets_from s vars n items)
items_shallow s vars n [] = tt
items_shallow s vars n (i ∷ items) =
    let m = item_levels i in
    let k = greatest (map item_levels items) in
    let later = targets_from s vars (n + length (aggregates_in_item i)) items in
    both_shallow (max m k) (item_targets s vars n i) later (deeper m (max m k) (item_targets s vars n i) (first m k) (item_shallow s vars n i))
    (deeper k (max m k) later (second m k) (items_shallow s vars (n + length (aggregates_in_item i)) items))

-- ---- queries

query_shallow : (s : Scope) (stmt : Statement) → deep.query_levels (query_of s stmt) ≤ 1 + statement_levels stmt
unfolding query_of where_tree statement_levels
query_shallow s stmt =
    two_above _ _ _ _ (targets_shallow (greatest (map item_levels (items_of stmt))) (targets_from s (vars_in stmt) 0 (items_of stmt)) (items_shallow s (vars_in stmt) 0 (items_of stmt)))
    (qual_shallow s (vars_in stmt) (length (flat_map aggregates_in_item (items_of stmt))) (where_of stmt))

where_shallow : (s : Scope) (stmt : Statement) → deep.qual_levels (qual_of (query_of s stmt)) ≤ statement_levels stmt
unfolding query_of where_tree statement_levels
where_shallow s stmt = at_most _ _ _ (qual_shallow s (vars_in stmt) (length (flat_map aggregates_in_item (items_of stmt))) (where_of stmt)) (second (greatest (map item_levels (items_of stmt))) (qual_levels (where_of stmt)))

-- all of what was found
whole_shallow : (info : Option RelInfo) → deep.query_levels (whole info).query ≤ 2
whole_shallow info =
    two_above (deep.greatest_target_levels (target_row (attr_targets 0 (attrs_in info)))) 1 1 1
    (targets_shallow 1 (attr_targets 0 (attrs_in info)) (attrs_shallow 0 0 (attrs_in info))) (same 1)

help_all_shallow : (s : Scope) → deep.query_levels (help_on_all s).query ≤ 4
help_all_shallow s = same 4

help_shallow : (s : Scope) (info : Option RelInfo) → deep.query_levels (help_on s info).query ≤ 4
help_shallow s info = same 4

printed_shallow : (s : Scope) (rels : List (List ℕ)) → greatest (map (λ (a : Asked). deep.query_levels a.query) (map (λ rel. whole (named s rel)) rels)) ≤ 2
printed_shallow s [] = omega arith
printed_shallow s (rel ∷ rels) = no_more (deep.query_levels (whole (named s rel)).query) _ 2 (whole_shallow (named s rel)) (printed_shallow s rels)

-- ---- trees

nothing : (n : ℕ) → 0 ≤ n + 4
nothing n = omega arith

few_more : (m n : ℕ) → m ≤ 4 → max m 0 ≤ n + 4
few_more m n h = omega (arith, h)

answered : (s : Scope) (stmt : Statement) → max (deep.query_levels (query_of s stmt)) 0 ≤ statement_levels stmt + 4
answered s stmt = omega (arith, query_shallow s stmt)

updated : (s : Scope) (stmt : Statement) → max (deep.query_levels (query_of s stmt)) 1 ≤ statement_levels stmt + 4
updated s stmt = omega (arith, query_shallow s stmt)

viewed : (s : Scope) (stmt : Statement) → deep.query_levels (query_of s stmt) ≤ statement_levels stmt + 4
viewed s stmt = omega (arith, query_shallow s stmt)

ruled : (s : Scope) (stmt : Statement) → deep.qual_levels (qual_of (query_of s stmt)) ≤ statement_levels stmt + 4
ruled s stmt = omega (arith, where_shallow s stmt)

printed : (s : Scope) (rels : List (List ℕ)) (n : ℕ) → greatest (map (λ (a : Asked). deep.query_levels a.query) (map (λ rel. whole (named s rel)) rels)) ≤ n + 4
printed s rels n = omega (arith, printed_shallow s rels)

tree_shallow : (s : Scope) (stmt : Statement) → tree_levels (tree_of s stmt) ≤ statement_levels stmt + 4
unfolding tree_of tree_levels append_of replace_of delete_of into_of
tree_shallow s (statement.Range var rel) = nothing (statement_levels (statement.Range var rel))
tree_shallow s (statement.Retrieve None items qual sort) = answered s (statement.Retrieve None items qual sort)
tree_shallow s (statement.Retrieve (Some name) items qual sort) = updated s (statement.Retrieve (Some name) items qual sort)
tree_shallow s (statement.Append rel items qual) = updated s (statement.Append rel items qual)
tree_shallow s (statement.Replace var items qual) = updated s (statement.Replace var items qual)
tree_shallow s (statement.Delete var qual) = updated s (statement.Delete var qual)
tree_shallow s (statement.Create rel attrs) = nothing (statement_levels (statement.Create rel attrs))
tree_shallow s (statement.Destroy rels) = nothing (statement_levels (statement.Destroy rels))
tree_shallow s (statement.DropPermits rel numbers) = nothing (statement_levels (statement.DropPermits rel numbers))
tree_shallow s (statement.DropRules rel numbers) = nothing (statement_levels (statement.DropRules rel numbers))
tree_shallow s (statement.Modify rel to keys) = nothing (statement_levels (statement.Modify rel to keys))
tree_shallow s (statement.Index base name keys) = nothing (statement_levels (statement.Index base name keys))
tree_shallow s (statement.Print rels) = printed s rels (statement_levels (statement.Print rels))
tree_shallow s (statement.Help None) = few_more (deep.query_levels (help_on_all s).query) (statement_levels (statement.Help None)) (help_all_shallow s)
tree_shallow s (statement.Help (Some rel)) =
    few_more (deep.query_levels (help_on s (named s rel)).query) (statement_levels (statement.Help (Some rel))) (help_shallow s (named s rel))
tree_shallow s (statement.Copy rel columns from file) = nothing (statement_levels (statement.Copy rel columns from file))
tree_shallow s (statement.View name items qual) = viewed s (statement.View name items qual)
tree_shallow s (statement.Permit ops var attrs user qual) = ruled s (statement.Permit ops var attrs user qual)
tree_shallow s (statement.Rule var qual) = ruled s (statement.Rule var qual)

-- what a statement is resolved to
pub resolved_shallow : (db : Db) (user : List ℕ) (ranges : Ranges) (stmt : Statement) (tree : Checked) → resolved db user ranges stmt ≡ Ok tree
    → tree_levels tree ≤ statement_levels stmt + 4
resolved_shallow db user ranges stmt tree e =
    let a = accepted db user ranges stmt tree e in
    subst (λ t. tree_levels t ≤ statement_levels stmt + 4) a.is (tree_shallow (scope db user ranges) stmt)
