-- The variables of a statement's query are used.
use Rattle.std.proofs.Common.{◌≡◌, refl, sym, subst, ℕ, ◌+◌, ◌==◌, true, cond, List, [], ◌∷◌, ◌++◌, map, length, append-nil}
use Rattle.std.specs.List.{flat_map, enumerate_from}
use Rattle.std.proofs.lemmas.Bool.{eq-eqb}
use Rattle.std.proofs.lemmas.Grind.{flat_map-append}
use Rattle.calculus.proofs.Forms.{items_of_targets}
use Rattle.calculus.specs.declared.operator.CmpOp.{CmpOp}
use Rattle.calculus.specs.declared.operator.CmpOp.TheVariants as compare
use Rattle.calculus.specs.declared.query.QTerm.{QTerm}
use Rattle.calculus.specs.declared.query.QTerm.TheVariants as qterm
use Rattle.calculus.specs.declared.query.Target.{Target}
use Rattle.calculus.specs.declared.schema.Attr.{Attr}
use Rattle.calculus.specs.declared.statement.Item.{Item}
use Rattle.calculus.specs.declared.statement.Item.TheVariants as item
use Rattle.calculus.specs.declared.statement.Qual.{Qual, True, Cmp}
use Rattle.calculus.specs.declared.statement.Statement.{Statement}
use Rattle.calculus.specs.declared.statement.Term.{Term, Int, Chars, Attr as Dot, Agg', Row_of-Term, end_of-Term, more_of-Term, Row_of-AggTerm, end_of-AggTerm, more_of-AggTerm}
use Rattle.calculus.specs.IsDatabase.{IsDatabase}
use Rattle.calculus.specs.Lists.{is_any}
use Rattle.calculus.specs.Stored.{attrs_in}
use Rattle.calculus.specs.Tree.{term_row}
use Rattle.calculus.specs.Used.{used, used_in_row, used_in_qual, used_in_query}
use Rattle.calculus.specs.Written.{neg, abs, operation, concat, both, either, negated}
use Rattle.quel_meaning.specs.Naming.{Mention, item_mentions, query_mentions, no_refusal}
use Rattle.quel_meaning.specs.Scope.{Scope}
use Rattle.quel_meaning.specs.WrittenParts.{outer_vars, linked_vars, outer_vars_in_row, outer_vars_in_qual, outer_vars_in_item, aggregates_in, aggregates_in_qual, aggregates_in_item, items_of, where_of, vars_in}
use Rattle.quel_meaning.specs.WrittenTree.{Vars, var_place, compared, term_tree, aggregate_tree, row_trees, qual_tree}
use Rattle.quel_meaning.specs.WrittenQuery.{item_targets, targets_from, where_tree, query_of}
use Rattle.quel_meaning.proofs.DatabaseFacts.{info_stands, stood}
use Rattle.quel_meaning.proofs.Each.{Each, front_of, both_of, of_flat_map, each_to}
use Rattle.quel_meaning.proofs.Found.{IsFound, ranged_with, ranged_is}
use Rattle.quel_meaning.proofs.GoodTargets.{some_more}

some_behind : {X : Type 0} (xs ys : List X) → is_any ys ≡ true → is_any (xs ++ ys) ≡ true
some_behind [] ys h = h
some_behind (x ∷ xs) ys h = refl

here : (p a : ℕ) → is_any (cond (p == p) (a ∷ []) []) ≡ true
here p a = subst (λ b. is_any (cond b (a ∷ []) []) ≡ true) (sym (eq-eqb p p refl)) refl

-- attributes of the variable are used in the term
abbrev UsedIn : Vars → QTerm → List ℕ → Type 0
UsedIn vars t v = is_any (used (var_place vars v) t) ≡ true

in_either : (vars : Vars) (ts us : ℕ → List ℕ) (front back : List (List ℕ)) → Each (λ v. is_any (ts (var_place vars v)) ≡ true) front
    → Each (λ v. is_any (us (var_place vars v)) ≡ true) back
    → Each (λ v. is_any (ts (var_place vars v) ++ us (var_place vars v)) ≡ true) (front ++ back)
in_either vars ts us front back h k =
    both_of _ front back (each_to _ _ (λ v e. some_more (ts (var_place vars v)) _ e) front h) (each_to _ _ (λ v e. some_behind (ts (var_place vars v)) _ e) back k)

mutual
  in_term : (s : Scope) (vars : Vars) (n : ℕ) (t : Term) → Each (UsedIn vars (term_tree s vars n t)) (outer_vars t)
  in_term s vars n (Int number) = tt
  in_term s vars n (Chars bytes) = tt
  in_term s vars n (Dot var attr) = (here (var_place vars var) _, tt)
  in_term s vars n (neg t) = in_term s vars n t
  in_term s vars n (abs t) = in_term s vars n t
  in_term s vars n (operation op t u) =
      in_either vars (λ v. used v (term_tree s vars n t)) (λ v. used v (term_tree s vars (n + length (aggregates_in t)) u)) (outer_vars t) (outer_vars u)
      (in_term s vars n t) (in_term s vars (n + length (aggregates_in t)) u)
  in_term s vars n (concat t u) =
      in_either vars (λ v. used v (term_tree s vars n t)) (λ v. used v (term_tree s vars (n + length (aggregates_in t)) u)) (outer_vars t) (outer_vars u)
      (in_term s vars n t) (in_term s vars (n + length (aggregates_in t)) u)
  in_term s vars n (Agg' mark row) = in_links s vars n row

  in_links : (s : Scope) (vars : Vars) (n : ℕ) → {m : _} → (row : Row_of-AggTerm m) → Each (UsedIn vars (aggregate_tree s vars n row)) (linked_vars row)
  in_links s vars n end_of-AggTerm = tt
  in_links s vars n (more_of-AggTerm op arg bys by qual rest) = in_row s vars by

  in_row : (s : Scope) (vars : Vars) → {m : _} → (row : Row_of-Term m)
      → Each (λ v. is_any (used_in_row (var_place vars v) (term_row (row_trees s vars row))) ≡ true) (outer_vars_in_row row)
  in_row s vars end_of-Term = tt
  in_row s vars (more_of-Term t rest) =
      in_either vars (λ v. used v (term_tree s vars 0 t)) (λ v. used_in_row v (term_row (row_trees s vars rest))) (outer_vars t) (outer_vars_in_row rest)
      (in_term s vars 0 t) (in_row s vars rest)

compared_uses : (v : ℕ) (op : CmpOp) (t u : QTerm) → used_in_qual v (compared op t u) ≡ used v t ++ used v u
compared_uses v compare.Eq t (qterm.Chars pattern) = sym (append-nil (used v t))
compared_uses v compare.Ne t (qterm.Chars pattern) = sym (append-nil (used v t))
compared_uses v compare.Eq (qterm.Chars pattern) u = refl
compared_uses v compare.Ne (qterm.Chars pattern) u = refl
compared_uses v op t u = refl

in_qual : (s : Scope) (vars : Vars) (n : ℕ) (q : Qual) → Each (λ v. is_any (used_in_qual (var_place vars v) (qual_tree s vars n q)) ≡ true) (outer_vars_in_qual q)
in_qual s vars n True = tt
in_qual s vars n (Cmp op t u) =
    each_to _ _ (λ v e. subst (λ xs. is_any xs ≡ true) (sym (compared_uses (var_place vars v) op (term_tree s vars n t) (term_tree s vars (n + length (aggregates_in t)) u))) e) (outer_vars t ++ outer_vars u)
    (in_either vars (λ v. used v (term_tree s vars n t)) (λ v. used v (term_tree s vars (n + length (aggregates_in t)) u)) (outer_vars t) (outer_vars u)
    (in_term s vars n t) (in_term s vars (n + length (aggregates_in t)) u))
in_qual s vars n (both p q) =
    in_either vars (λ v. used_in_qual v (qual_tree s vars n p)) (λ v. used_in_qual v (qual_tree s vars (n + length (aggregates_in_qual p)) q)) (outer_vars_in_qual p) (outer_vars_in_qual q)
    (in_qual s vars n p) (in_qual s vars (n + length (aggregates_in_qual p)) q)
in_qual s vars n (either p q) =
    in_either vars (λ v. used_in_qual v (qual_tree s vars n p)) (λ v. used_in_qual v (qual_tree s vars (n + length (aggregates_in_qual p)) q)) (outer_vars_in_qual p) (outer_vars_in_qual q)
    (in_qual s vars n p) (in_qual s vars (n + length (aggregates_in_qual p)) q)
in_qual s vars n (negated p) = in_qual s vars n p

-- ---- target lists

abbrev pub used_by : ℕ → List Target → List ℕ
used_by v ts = flat_map (λ (t : Target). used v t.term) ts

all_used : (var : ℕ) (attrs : List Attr) → is_any attrs ≡ true
    → is_any (used_by var (map (λ (p : ℕ × Attr). record { name = p.1.name; kind = p.1.kind; term = qterm.Attr var p.0 }) (enumerate_from 0 attrs))) ≡ true
all_used var [] h = absurd (cc h)
all_used var (a ∷ attrs) h = some_more _ _ (here var 0)

in_item : (s : Scope) → IsDatabase s.db → (titled : List ℕ → List Mention) (vars : Vars) (n : ℕ) (i : Item) → Each (IsFound s) (item_mentions s titled i)
    → Each (λ v. is_any (used_by (var_place vars v) (item_targets s vars n i)) ≡ true) (outer_vars_in_item i)
in_item s is titled vars n (item.Set name term) h = each_to _ _ (λ v e. some_more (used (var_place vars v) (term_tree s vars n term)) [] e) (outer_vars term) (in_term s vars n term)
in_item s is titled vars n (item.Attr var attr) h = (some_more _ [] (here (var_place vars var) _), tt)
in_item s is titled vars n (item.All var) h =
    let r = (ranged_with s no_refusal var h.0).is in (
      subst (λ o. is_any (used_by (var_place vars var) (map (λ (p : ℕ × Attr). record { name = p.1.name; kind = p.1.kind; term = qterm.Attr (var_place vars var) p.0 }) (enumerate_from 0 (attrs_in o)))) ≡ true)
          (sym (ranged_is s var r)) (all_used (var_place vars var) r.info.attrs (stood r.info.attrs (info_stands s.db is r.key r.info r.there)).any),
      tt,
    )

in_items : (s : Scope) → IsDatabase s.db → (titled : List ℕ → List Mention) (vars : Vars) (n : ℕ) (items : List Item)
    → Each (λ i. Each (IsFound s) (item_mentions s titled i)) items
    → Each (λ v. is_any (used_by (var_place vars v) (targets_from s vars n items)) ≡ true) (flat_map outer_vars_in_item items)
in_items s is titled vars n [] h = tt
in_items s is titled vars n (i ∷ items) h =
    each_to _ _ (λ v e. subst (λ xs. is_any xs ≡ true) (sym (flat_map-append (λ (t : Target). used (var_place vars v) t.term) (item_targets s vars n i) _)) e) (outer_vars_in_item i ++ flat_map outer_vars_in_item items)
    (in_either vars (λ v. used_by v (item_targets s vars n i)) (λ v. used_by v (targets_from s vars (n + length (aggregates_in_item i)) items)) (outer_vars_in_item i) (flat_map outer_vars_in_item items)
    (in_item s is titled vars n i h.0) (in_items s is titled vars (n + length (aggregates_in_item i)) items h.1))

-- each variable of a target list and of a qualification is used in the query, at its place
pub in_query : (s : Scope) → IsDatabase s.db → (titled : List ℕ → List Mention) (stmt : Statement) → Each (IsFound s) (query_mentions s titled (items_of stmt) (where_of stmt))
    → Each (λ v. is_any (used_in_query (var_place (vars_in stmt) v) (query_of s stmt)) ≡ true) (flat_map outer_vars_in_item (items_of stmt) ++ outer_vars_in_qual (where_of stmt))
unfolding query_of where_tree
in_query s is titled stmt h =
    subst (λ ts. Each (λ v. is_any (used_by (var_place vars v) ts ++ used_in_qual (var_place vars v) (where_tree s stmt)) ≡ true) (flat_map outer_vars_in_item (items_of stmt) ++ outer_vars_in_qual (where_of stmt)))
    (sym (items_of_targets (targets_from s vars 0 (items_of stmt))))
    (in_either vars (λ v. used_by v (targets_from s vars 0 (items_of stmt))) (λ v. used_in_qual v (where_tree s stmt)) (flat_map outer_vars_in_item (items_of stmt)) (outer_vars_in_qual (where_of stmt))
    (in_items s is titled vars 0 (items_of stmt) (of_flat_map _ (item_mentions s titled) (items_of stmt) (front_of _ _ _ h))) (in_qual s vars _ (where_of stmt)))
  where
    vars : Vars
    vars = vars_in stmt
