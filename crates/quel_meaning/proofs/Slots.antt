-- The aggregates of a statement's query are those of its text, and their slots count up from 0.
use Rattle.std.proofs.Common.{◌≡◌, refl, sym, ap, ◌∙◌, subst, ℕ, suc, ◌+◌, nat_eq, Bool, true, false, ◌&&◌, List, [], ◌∷◌, ◌++◌, map, length, append-nil, arith}
use Rattle.std.specs.List.{flat_map, enumerate_from}
use Rattle.std.proofs.lemmas.Bool.{eq-eqb}
use Rattle.std.proofs.lemmas.Grind.{flat_map-append}
use Rattle.std.proofs.lemmas.List.{length-append}
use Rattle.calculus.proofs.Forms.{items_of_targets}
use Rattle.calculus.specs.declared.operator.CmpOp.{CmpOp}
use Rattle.calculus.specs.declared.operator.CmpOp.TheVariants as compare
use Rattle.calculus.specs.declared.query.QAgg.{QAgg}
use Rattle.calculus.specs.declared.query.QTerm.{QTerm}
use Rattle.calculus.specs.declared.query.QTerm.TheVariants as qterm
use Rattle.calculus.specs.declared.query.Target.{Target}
use Rattle.calculus.specs.declared.schema.Attr.{Attr}
use Rattle.calculus.specs.declared.statement.AggTerm.{AggTerm}
use Rattle.calculus.specs.declared.statement.Item.{Item}
use Rattle.calculus.specs.declared.statement.Item.TheVariants as item
use Rattle.calculus.specs.declared.statement.Qual.{Qual, True, Cmp}
use Rattle.calculus.specs.declared.statement.Statement.{Statement}
use Rattle.calculus.specs.declared.statement.Term.{Term, Int, Chars, Attr as Dot, Agg', Row_of-AggTerm, end_of-AggTerm, more_of-AggTerm}
use Rattle.calculus.specs.Stored.{attrs_in}
use Rattle.calculus.specs.QueryParts.{term_aggregates, qual_aggregates, query_aggregates}
use Rattle.calculus.specs.Written.{neg, abs, operation, concat, both, either, negated}
use Rattle.quel_meaning.specs.FitQueries.{slots_count_from, slots_count_up}
use Rattle.quel_meaning.specs.Scope.{Scope, ranged}
use Rattle.quel_meaning.specs.WrittenParts.{aggregate_of, aggregates_in, aggregates_in_qual, aggregates_in_item, text_aggregates, items_of, where_of, vars_in}
use Rattle.quel_meaning.specs.WrittenTree.{Vars, var_place, compared, term_tree, aggregate_tree, qual_tree}
use Rattle.quel_meaning.specs.WrittenQuery.{item_targets, targets_from, where_tree, query_of}

-- aggregates of a tree are as many as those of a text, and their slots count up from a number
record Numbered (n : ℕ) (gs : List QAgg) (texts : List AggTerm) : Type 0 where
  slots : slots_count_from n gs ≡ true
  number : length gs ≡ length texts

slots_behind : (n : ℕ) (xs ys : List QAgg) → slots_count_from n xs ≡ true → slots_count_from (n + length xs) ys ≡ true → slots_count_from n (xs ++ ys) ≡ true
slots_behind n [] ys h k = let e : n + 0 ≡ n = omega arith in subst (λ m. slots_count_from m ys ≡ true) e k
slots_behind n (x ∷ xs) ys h k = go (slots_behind (n + 1) xs ys) (nat_eq x.slot n) h
  where
    later : n + suc (length xs) ≡ n + 1 + length xs
    later = omega arith

    go : (slots_count_from (n + 1) xs ≡ true → slots_count_from (n + 1 + length xs) ys ≡ true → slots_count_from (n + 1) (xs ++ ys) ≡ true)
        → (b : Bool) → (b && slots_count_from (n + 1) xs) ≡ true → (b && slots_count_from (n + 1) (xs ++ ys)) ≡ true
    go rest true h = rest h (subst (λ m. slots_count_from m ys ≡ true) later k)
    go rest false h = h

behind : (n : ℕ) (xs ys : List QAgg) (texts bs : List AggTerm) → Numbered n xs texts → Numbered (n + length texts) ys bs → Numbered n (xs ++ ys) (texts ++ bs)
behind n xs ys texts bs h k = record {
  slots = slots_behind n xs ys h.slots (subst (λ m. slots_count_from (n + m) ys ≡ true) (sym h.number) k.slots);
  number = length-append xs ys ∙ ap (λ m. m + length ys) h.number ∙ ap (λ m. length texts + m) k.number ∙ sym (length-append texts bs);
}

none : (n : ℕ) → Numbered n [] []
none n = record { slots = refl; number = refl }

of_row : (s : Scope) (vars : Vars) (n : ℕ) → {m : _} → (row : Row_of-AggTerm m) → Numbered n (term_aggregates (aggregate_tree s vars n row)) (aggregate_of row)
unfolding term_aggregates
of_row s vars n end_of-AggTerm = none n
of_row s vars n (more_of-AggTerm op arg bys by qual rest) = record { slots = ap (λ b. b && true) (eq-eqb n n refl); number = refl }

of_term : (s : Scope) (vars : Vars) (n : ℕ) (t : Term) → Numbered n (term_aggregates (term_tree s vars n t)) (aggregates_in t)
unfolding term_aggregates aggregates_in
of_term s vars n (Int number) = none n
of_term s vars n (Chars bytes) = none n
of_term s vars n (Dot var attr) = none n
of_term s vars n (neg t) = of_term s vars n t
of_term s vars n (abs t) = of_term s vars n t
of_term s vars n (operation op t u) = behind n _ _ _ _ (of_term s vars n t) (of_term s vars (n + length (aggregates_in t)) u)
of_term s vars n (concat t u) = behind n _ _ _ _ (of_term s vars n t) (of_term s vars (n + length (aggregates_in t)) u)
of_term s vars n (Agg' mark row) = of_row s vars n row

-- the aggregates of a comparison are those of its sides, as a constant has none
pub compared_has : (op : CmpOp) (t u : QTerm) → qual_aggregates (compared op t u) ≡ term_aggregates t ++ term_aggregates u
unfolding qual_aggregates term_aggregates
compared_has compare.Eq t (qterm.Chars pattern) = sym (append-nil (term_aggregates t))
compared_has compare.Ne t (qterm.Chars pattern) = sym (append-nil (term_aggregates t))
compared_has compare.Eq (qterm.Chars pattern) u = refl
compared_has compare.Ne (qterm.Chars pattern) u = refl
compared_has op t u = refl

of_qual : (s : Scope) (vars : Vars) (n : ℕ) (q : Qual) → Numbered n (qual_aggregates (qual_tree s vars n q)) (aggregates_in_qual q)
unfolding qual_aggregates aggregates_in_qual
of_qual s vars n True = none n
of_qual s vars n (Cmp op t u) =
    subst (λ gs. Numbered n gs (aggregates_in t ++ aggregates_in u)) (sym (compared_has op (term_tree s vars n t) (term_tree s vars (n + length (aggregates_in t)) u)))
    (behind n _ _ _ _ (of_term s vars n t) (of_term s vars (n + length (aggregates_in t)) u))
of_qual s vars n (both p q) = behind n _ _ _ _ (of_qual s vars n p) (of_qual s vars (n + length (aggregates_in_qual p)) q)
of_qual s vars n (either p q) = behind n _ _ _ _ (of_qual s vars n p) (of_qual s vars (n + length (aggregates_in_qual p)) q)
of_qual s vars n (negated p) = of_qual s vars n p

abbrev pub in_targets : List Target → List QAgg
in_targets ts = flat_map (λ (t : Target). term_aggregates t.term) ts

pub none_in_attrs : (var k : ℕ) (attrs : List Attr)
    → in_targets (map (λ (p : ℕ × Attr). record { name = p.1.name; kind = p.1.kind; term = qterm.Attr var p.0 }) (enumerate_from k attrs)) ≡ []
unfolding term_aggregates
none_in_attrs var k [] = refl
none_in_attrs var k (a ∷ attrs) = none_in_attrs var (k + 1) attrs

of_item : (s : Scope) (vars : Vars) (n : ℕ) (i : Item) → Numbered n (in_targets (item_targets s vars n i)) (aggregates_in_item i)
unfolding term_aggregates
of_item s vars n (item.Set name term) = subst (λ gs. Numbered n gs (aggregates_in term)) (sym (append-nil (term_aggregates (term_tree s vars n term)))) (of_term s vars n term)
of_item s vars n (item.Attr var attr) = none n
of_item s vars n (item.All var) = subst (λ gs. Numbered n gs []) (sym (none_in_attrs (var_place vars var) 0 (attrs_in (ranged s var)))) (none n)

of_items : (s : Scope) (vars : Vars) (n : ℕ) (items : List Item) → Numbered n (in_targets (targets_from s vars n items)) (flat_map aggregates_in_item items)
of_items s vars n [] = none n
of_items s vars n (i ∷ items) =
    subst (λ gs. Numbered n gs (aggregates_in_item i ++ flat_map aggregates_in_item items)) (sym (flat_map-append _ (item_targets s vars n i) _))
    (behind n _ _ _ _ (of_item s vars n i) (of_items s vars (n + length (aggregates_in_item i)) items))

of_query : (s : Scope) (stmt : Statement) → Numbered 0 (query_aggregates (query_of s stmt)) (text_aggregates stmt)
unfolding query_of where_tree
of_query s stmt =
    subst (λ ts. Numbered 0 (in_targets ts ++ qual_aggregates (where_tree s stmt)) (text_aggregates stmt)) (sym (items_of_targets (targets_from s (vars_in stmt) 0 (items_of stmt))))
    (behind 0 _ _ _ _ (of_items s (vars_in stmt) 0 (items_of stmt)) (subst (λ n. Numbered n (qual_aggregates (where_tree s stmt)) (aggregates_in_qual (where_of stmt))) from_0 in_where))
  where
    before : ℕ
    before = length (flat_map aggregates_in_item (items_of stmt))

    from_0 : before ≡ 0 + before
    from_0 = omega arith

    in_where : Numbered before (qual_aggregates (qual_tree s (vars_in stmt) before (where_of stmt))) (aggregates_in_qual (where_of stmt))
    in_where = of_qual s (vars_in stmt) before (where_of stmt)

pub slots_are : (s : Scope) (stmt : Statement) → slots_count_up (query_of s stmt) ≡ true
slots_are s stmt = (of_query s stmt).slots

pub as_many : (s : Scope) (stmt : Statement) → length (query_aggregates (query_of s stmt)) ≡ length (text_aggregates stmt)
as_many s stmt = (of_query s stmt).number
