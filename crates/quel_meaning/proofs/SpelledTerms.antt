-- The trees of written terms and qualifications have the constants of these, and no others but those of their types.
use Rattle.std.proofs.Common.{◌≡◌, refl, ℕ, ◌+◌, true, List, [], ◌∷◌, map, length}
use Rattle.std.specs.List.{list_all, enumerate_from}
use Rattle.calculus.specs.declared.operator.CmpOp.{CmpOp}
use Rattle.calculus.specs.declared.operator.CmpOp.TheVariants as compare
use Rattle.calculus.specs.declared.query.QTerm.{QTerm}
use Rattle.calculus.specs.declared.query.QTerm.TheVariants as qterm
use Rattle.calculus.specs.declared.query.Target.{Target}
use Rattle.calculus.specs.declared.schema.Attr.{Attr}
use Rattle.calculus.specs.declared.statement.Item.{Item}
use Rattle.calculus.specs.declared.statement.Item.TheVariants as item
use Rattle.calculus.specs.declared.statement.Qual.{Qual, True, Cmp}
use Rattle.calculus.specs.declared.statement.Statement.{Statement}
use Rattle.calculus.specs.declared.statement.Term.{Term, Int, Chars, Attr as Dot, Agg', Row_of-Term, end_of-Term, more_of-Term, items-the_row-Term, Row_of-AggTerm, end_of-AggTerm, more_of-AggTerm}
use Rattle.calculus.specs.Name.{is_name}
use Rattle.calculus.specs.Spelled.{term_is_spelled, terms_are_spelled, qual_is_spelled, targets_are_spelled, query_is_spelled}
use Rattle.calculus.specs.Stored.{attrs_in}
use Rattle.calculus.specs.Tree.{term_row, target_row}
use Rattle.calculus.specs.Written.{neg, abs, operation, concat, both, either, negated}
use Rattle.quel_meaning.specs.IsWritten.{term_is_written, aggregate_is_written, terms_are_written, qual_is_written, item_is_written}
use Rattle.quel_meaning.specs.Scope.{Scope, ranged}
use Rattle.quel_meaning.specs.WrittenParts.{aggregates_in, aggregates_in_qual, aggregates_in_item, aggregate_vars, items_of, where_of, vars_in}
use Rattle.quel_meaning.specs.WrittenTree.{Vars, var_place, compared, term_tree, aggregate_tree, row_trees, qual_tree}
use Rattle.quel_meaning.specs.WrittenQuery.{attr_targets, item_targets, targets_from, where_tree, query_of}
use Rattle.quel_meaning.proofs.Each.{Each, both_of, left, right, and}

-- a pattern is a constant
compared_spelled : (op : CmpOp) (t u : QTerm) → term_is_spelled t ≡ true → term_is_spelled u ≡ true → qual_is_spelled (compared op t u) ≡ true
compared_spelled compare.Eq t (qterm.Chars pattern) h k = and _ _ h k
compared_spelled compare.Ne t (qterm.Chars pattern) h k = and _ _ h k
compared_spelled compare.Eq (qterm.Chars pattern) u h k = and _ _ k h
compared_spelled compare.Ne (qterm.Chars pattern) u h k = and _ _ k h
compared_spelled op t u h k = and _ _ h k

mutual
  pub term_spelled : (s : Scope) (vars : Vars) (n : ℕ) (t : Term) → term_is_written t ≡ true → term_is_spelled (term_tree s vars n t) ≡ true
  term_spelled s vars n (Int number) w = w
  term_spelled s vars n (Chars bytes) w = w
  term_spelled s vars n (Dot var attr) w = refl
  term_spelled s vars n (neg t) w = term_spelled s vars n t w
  term_spelled s vars n (abs t) w = term_spelled s vars n t w
  term_spelled s vars n (operation op t u) w =
      and _ _ (term_spelled s vars n t (left (term_is_written t) _ w)) (term_spelled s vars (n + length (aggregates_in t)) u (right (term_is_written t) _ w))
  term_spelled s vars n (concat t u) w =
      and _ _ (term_spelled s vars n t (left (term_is_written t) _ w)) (term_spelled s vars (n + length (aggregates_in t)) u (right (term_is_written t) _ w))
  term_spelled s vars n (Agg' mark row) w = aggregate_spelled s vars n row w

  aggregate_spelled : (s : Scope) (vars : Vars) (n : ℕ) → {m : _} → (row : Row_of-AggTerm m) → aggregate_is_written row ≡ true
      → term_is_spelled (aggregate_tree s vars n row) ≡ true
  aggregate_spelled s vars n end_of-AggTerm w = refl
  aggregate_spelled s vars n (more_of-AggTerm op arg bys by qual rest) w =
      let inner = aggregate_vars (record { op = op; arg = arg; by = items-the_row-Term _ by; qual = qual }) in
      let behind = right (term_is_written arg) _ w in
      let grouped = left (terms_are_written by) _ behind in
      and _ _ (term_spelled s inner 0 arg (left (term_is_written arg) _ w))
      (and _ _ (row_spelled s inner by grouped) (and _ _ (row_spelled s vars by grouped) (qual_spelled s inner 0 qual (right (terms_are_written by) _ behind))))

  row_spelled : (s : Scope) (vars : Vars) → {m : _} → (row : Row_of-Term m) → terms_are_written row ≡ true → terms_are_spelled (term_row (row_trees s vars row)) ≡ true
  row_spelled s vars end_of-Term w = refl
  row_spelled s vars (more_of-Term t rest) w = and _ _ (term_spelled s vars 0 t (left (term_is_written t) _ w)) (row_spelled s vars rest (right (term_is_written t) _ w))

  pub qual_spelled : (s : Scope) (vars : Vars) (n : ℕ) (q : Qual) → qual_is_written q ≡ true → qual_is_spelled (qual_tree s vars n q) ≡ true
  qual_spelled s vars n True w = refl
  qual_spelled s vars n (Cmp op t u) w =
      compared_spelled op (term_tree s vars n t) (term_tree s vars (n + length (aggregates_in t)) u)
      (term_spelled s vars n t (left (term_is_written t) _ w)) (term_spelled s vars (n + length (aggregates_in t)) u (right (term_is_written t) _ w))
  qual_spelled s vars n (both p q) w =
      and _ _ (qual_spelled s vars n p (left (qual_is_written p) _ w)) (qual_spelled s vars (n + length (aggregates_in_qual p)) q (right (qual_is_written p) _ w))
  qual_spelled s vars n (either p q) w =
      and _ _ (qual_spelled s vars n p (left (qual_is_written p) _ w)) (qual_spelled s vars (n + length (aggregates_in_qual p)) q (right (qual_is_written p) _ w))
  qual_spelled s vars n (negated p) w = qual_spelled s vars n p w

-- ---- targets

-- the term of each of these targets has constants of their types
abbrev pub AreSpelled : List Target → Type 0
AreSpelled ts = Each (λ (t : Target). term_is_spelled t.term ≡ true) ts

-- each of these targets has a name
abbrev pub AreNamed : List Target → Type 0
AreNamed ts = Each (λ (t : Target). is_name t.name ≡ true) ts

pub targets_spelled : (ts : List Target) → AreNamed ts → AreSpelled ts → targets_are_spelled (target_row ts) ≡ true
targets_spelled [] n h = refl
targets_spelled (t ∷ ts) n h = and _ _ n.0 (and _ _ h.0 (targets_spelled ts n.1 h.1))

attrs_spelled : (var k : ℕ) (attrs : List Attr) → AreSpelled (map (λ (p : ℕ × Attr). record { name = p.1.name; kind = p.1.kind; term = qterm.Attr var p.0 }) (enumerate_from k attrs))
attrs_spelled var k [] = tt
attrs_spelled var k (a ∷ attrs) = (refl, attrs_spelled var (k + 1) attrs)

attrs_named : (var k : ℕ) (attrs : List Attr) → Each (λ (a : Attr). is_name a.name ≡ true) attrs
    → AreNamed (map (λ (p : ℕ × Attr). record { name = p.1.name; kind = p.1.kind; term = qterm.Attr var p.0 }) (enumerate_from k attrs))
attrs_named var k [] h = tt
attrs_named var k (a ∷ attrs) h = (h.0, attrs_named var (k + 1) attrs h.1)

pub all_attrs_spelled : (var : ℕ) (attrs : List Attr) → Each (λ (a : Attr). is_name a.name ≡ true) attrs → targets_are_spelled (target_row (attr_targets var attrs)) ≡ true
all_attrs_spelled var attrs h = targets_spelled (attr_targets var attrs) (attrs_named var 0 attrs h) (attrs_spelled var 0 attrs)

item_spelled : (s : Scope) (vars : Vars) (n : ℕ) (i : Item) → item_is_written i ≡ true → AreSpelled (item_targets s vars n i)
item_spelled s vars n (item.Set name term) w = (term_spelled s vars n term (right _ (term_is_written term) w), tt)
item_spelled s vars n (item.Attr var attr) w = (refl, tt)
item_spelled s vars n (item.All var) w = attrs_spelled (var_place vars var) 0 (attrs_in (ranged s var))

items_spelled : (s : Scope) (vars : Vars) (n : ℕ) (items : List Item) → list_all item_is_written items ≡ true → AreSpelled (targets_from s vars n items)
items_spelled s vars n [] w = tt
items_spelled s vars n (i ∷ items) w =
    both_of _ (item_targets s vars n i) _ (item_spelled s vars n i (left (item_is_written i) _ w)) (items_spelled s vars (n + length (aggregates_in_item i)) items (right (item_is_written i) _ w))

-- ---- queries

-- the query of a statement whose target list and qualification are written, and whose targets have names
pub query_spelled : (s : Scope) (stmt : Statement) → AreNamed (targets_from s (vars_in stmt) 0 (items_of stmt)) → list_all item_is_written (items_of stmt) ≡ true
    → qual_is_written (where_of stmt) ≡ true → query_is_spelled (query_of s stmt) ≡ true
unfolding query_of where_tree
query_spelled s stmt n w q =
    and _ _ (targets_spelled (targets_from s (vars_in stmt) 0 (items_of stmt)) n (items_spelled s (vars_in stmt) 0 (items_of stmt) w))
    (qual_spelled s (vars_in stmt) _ (where_of stmt) q)
