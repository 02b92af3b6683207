-- Terms, qualifications, aggregates and queries as bytes: the laws.
use mathlib.Core.Former.{arity, list, this}
use Rattle.std.specs.Prelude.{◌≡◌, ℕ, zero, suc, ◌≤◌, true, nat_lt, List, [], ◌∷◌}
use Rattle.std.proofs.Common.{inl, inr, refl, arith, ap, ◌∙◌}
use Rattle.std.proofs.lemmas.Bool.{ltb-true}
use Rattle.tree_words.specs.ChoiceLaws.{flag_exact}
use Rattle.tree_words.specs.Codec.{Codec}
use Rattle.tree_words.specs.Exact.{Exact}
use Rattle.tree_words.specs.FormLaws.{mapped_exact}
use Rattle.tree_words.specs.LetterLaws.{byte_exact, nothing_exact}
use Rattle.tree_words.specs.ListLaws.{list_exact}
use Rattle.tree_words.specs.NumberLaws.{number16_exact, number64_exact}
use Rattle.tree_words.specs.PairLaws.{both_exact}
use Rattle.tree_words.specs.WayLaws.{tagged_exact, or_exact, gated_exact, last_if_exact}
use Rattle.calculus.specs.declared.query.AggSource.TheVariants as sources
use Rattle.calculus.specs.declared.query.QQual.{QQual}
use Rattle.calculus.specs.declared.query.QQual.TheVariants as quals
use Rattle.calculus.specs.declared.query.QTerm.{QTerm, Agg', Row_of-QTerm, end_of-QTerm, more_of-QTerm, items-the_row-QTerm, end_of-QAgg, more_of-QAgg}
use Rattle.calculus.specs.declared.query.QTerm.TheVariants as terms
use Rattle.calculus.specs.declared.query.Query.{Query, Query', Row_of-Target, end_of-Target, more_of-Target, items-the_row-Target}
use Rattle.calculus.specs.declared.query.QAgg.{QAgg}
use Rattle.calculus.specs.declared.query.RelKey.{RelKey}
use Rattle.calculus.specs.declared.query.Target.{Target}
use Rattle.calculus.specs.QueryParts.{vars_of, targets_of, qual_of}
use Rattle.calculus.specs.Tree as tree
use Rattle.tree_words.specs.Words.{number16}
use Rattle.calculus.proofs.Forms as forms
use Rattle.quel_tree.specs.NameLaws.{chars_exact, name_exact}
use Rattle.quel_tree.specs.OperatorLaws.{agg_op_exact, arith_op_exact, cmp_op_exact}
use Rattle.quel_tree.specs.RelationLaws.{rel_key_exact}
use Rattle.quel_tree.specs.ValueLaws.{kind_exact}
use Rattle.quel_tree.specs.Relations.{rel_key}
use Rattle.quel_tree.specs.Queries.{Terms, term_of, term_way, term_over, Quals, qual_from, qual_way, qual_over, source_way, source_over, agg_over, target_over, query_over, trees, term, qual, agg, query, source, target}

-- a list of terms, taken out of a tree and put back
terms_again : (s : List (Unit {0})) (row : Row_of-QTerm (arity (list this) s)) → ◌≡◌ {A = (s : List (Unit {0})) × Row_of-QTerm (arity (list this) s)} (tree.marks_for (items-the_row-QTerm _ row), tree.term_row (items-the_row-QTerm _ row)) (s, row)
terms_again [] end_of-QTerm = refl
terms_again (tt ∷ s) (more_of-QTerm t rest) = ap (λ p. (tt ∷ p.0, more_of-QTerm t p.1)) (terms_again s rest)

-- a list of targets, taken out of a query and put back
targets_again : (s : List (Unit {0})) (row : Row_of-Target (arity (list this) s)) → ◌≡◌ {A = (s : List (Unit {0})) × Row_of-Target (arity (list this) s)} (tree.marks_for (items-the_row-Target _ row), tree.target_row (items-the_row-Target _ row)) (s, row)
targets_again [] end_of-Target = refl
targets_again (tt ∷ s) (more_of-Target name kind term rest) = ap (λ p. (tt ∷ p.0, more_of-Target name kind term p.1)) (targets_again s rest)

-- a term, taken apart and put together
term_again : (t : QTerm) → term_of (term_way t) ≡ t
term_again (terms.Int n) = refl
term_again (terms.Chars bs) = refl
term_again (terms.Attr var attr) = refl
term_again (tree.neg t) = forms.neg_is t
term_again (tree.abs t) = forms.abs_is t
term_again (tree.operation op t u) = forms.operation_is op t u
term_again (tree.concat t u) = forms.concat_is t u
term_again (Agg' tt (more_of-QAgg slot op source arg bys by links link qual end_of-QAgg)) =
    forms.agg_is (record { slot = slot; op = op; source = source; arg = arg; by = items-the_row-QTerm _ by; link = items-the_row-QTerm _ link; qual = qual })
    ∙ (λ i. Agg' tt (more_of-QAgg slot op source arg (terms_again bys by i).0 (terms_again bys by i).1 (terms_again links link i).0 (terms_again links link i).1 qual end_of-QAgg))

-- what a term is made of, put together and taken apart
parts_again : (p : Terms) → term_way (term_of p) ≡ p
parts_again (inl n) = refl
parts_again (inr (inl bs)) = refl
parts_again (inr (inr (inl p))) = refl
parts_again (inr (inr (inr (inl t)))) = ap term_way (forms.neg_is t)
parts_again (inr (inr (inr (inr (inl t))))) = ap term_way (forms.abs_is t)
parts_again (inr (inr (inr (inr (inr (inl p)))))) = ap term_way (forms.operation_is p.0 p.1.0 p.1.1)
parts_again (inr (inr (inr (inr (inr (inr (inl p))))))) = ap term_way (forms.concat_is p.0 p.1)
parts_again (inr (inr (inr (inr (inr (inr (inr g))))))) = ap term_way (forms.agg_is g)
    ∙ (λ i. inr (inr (inr (inr (inr (inr (inr (record { slot = g.slot; op = g.op; source = g.source; arg = g.arg; by = forms.items_of_terms g.by i; link = forms.items_of_terms g.link i; qual = g.qual }))))))))

qual_again : (q : QQual) → qual_from (qual_way q) ≡ q
qual_again quals.True = refl
qual_again (quals.Cmp op t u) = refl
qual_again (quals.Like t pattern same) = refl
qual_again (tree.both p q) = forms.both_is p q
qual_again (tree.either p q) = forms.either_is p q
qual_again (tree.negated q) = forms.negated_is q

qual_parts_again : (p : Quals) → qual_way (qual_from p) ≡ p
qual_parts_again (inl tt) = refl
qual_parts_again (inr (inl p)) = refl
qual_parts_again (inr (inr (inl p))) = refl
qual_parts_again (inr (inr (inr (inl p)))) = ap qual_way (forms.both_is p.0 p.1)
qual_parts_again (inr (inr (inr (inr (inl p))))) = ap qual_way (forms.either_is p.0 p.1)
qual_parts_again (inr (inr (inr (inr (inr q))))) = ap qual_way (forms.negated_is q)

-- ---- the laws over those inside

term_over_exact : (n : ℕ) (t : Codec QTerm) (g : Codec QAgg) → (nat_lt 0 n ≡ true → Exact t) → (nat_lt 1 n ≡ true → Exact g) → Exact (term_over n t g)
term_over_exact n t g te ge = mapped_exact _ _ _ (λ p f. parts_again p) (λ u f. term_again u)
    (tagged_exact _ (inr (inr (inl (0, 0)))) (omega arith, omega arith)
    (or_exact _ _ number64_exact (or_exact _ _ chars_exact (or_exact _ _ (both_exact _ _ byte_exact byte_exact)
    (gated_exact _ _ _ te (gated_exact _ _ _ te (gated_exact _ _ _ (λ e. both_exact _ _ arith_op_exact (both_exact _ _ (te e) (te e)))
    (gated_exact _ _ _ (λ e. both_exact _ _ (te e) (te e)) (last_if_exact _ _ ge)))))))))

qual_over_exact : (n : ℕ) (t : Codec QTerm) (q : Codec QQual) → (nat_lt 0 n ≡ true → Exact t) → (nat_lt 0 n ≡ true → Exact q) → Exact (qual_over n t q)
qual_over_exact n t q te qe = mapped_exact _ _ _ (λ p f. qual_parts_again p) (λ r f. qual_again r)
    (tagged_exact _ (inl tt) tt
    (or_exact _ _ nothing_exact (gated_exact _ _ _ (λ e. both_exact _ _ cmp_op_exact (both_exact _ _ (te e) (te e)))
    (gated_exact _ _ _ (λ e. both_exact _ _ (te e) (both_exact _ _ chars_exact flag_exact))
    (gated_exact _ _ _ (λ e. both_exact _ _ (qe e) (qe e)) (gated_exact _ _ _ (λ e. both_exact _ _ (qe e) (qe e)) (last_if_exact _ _ qe)))))))

source_over_exact : (n : ℕ) (q : Codec Query) → (nat_lt 1 n ≡ true → Exact q) → Exact (source_over n q)
source_over_exact n q qe = mapped_exact _ _ _
    (elim [ inl k ↦ λ f. refl | inr r ↦ λ f. ap source_way (forms.rows_is r) ])
    (elim [ sources.Named k ↦ λ f. refl | tree.rows_of_query r ↦ λ f. forms.rows_is r ])
    (tagged_exact _ (inl rel_key_exact.example) rel_key_exact.lawful (or_exact _ _ rel_key_exact (last_if_exact _ _ qe)))

agg_over_exact : (n : ℕ) (t : Codec QTerm) (q : Codec QQual) (r : Codec Query) → Exact t → Exact q → (nat_lt 1 n ≡ true → Exact r) → Exact (agg_over n t q r)
agg_over_exact n t q r te qe re = mapped_exact _ _ _ (λ p f. refl) (λ g f. refl)
    (both_exact _ _ number16_exact (both_exact _ _ agg_op_exact (both_exact _ _ (source_over_exact n r re) (both_exact _ _ te
    (both_exact _ _ (list_exact number16 t number16_exact te) (both_exact _ _ (list_exact number16 t number16_exact te) qe))))))

target_over_exact : (t : Codec QTerm) → Exact t → Exact (target_over t)
target_over_exact t te = mapped_exact _ _ _ (λ p f. refl) (λ r f. refl) (both_exact _ _ name_exact (both_exact _ _ kind_exact te))

query_parts_again : (vars : List RelKey) (targets : List Target) (q : QQual) → ◌≡◌ {A = List RelKey × (List Target × QQual)} (vars_of (tree.query vars targets q), (targets_of (tree.query vars targets q), qual_of (tree.query vars targets q))) (vars, (targets, q))
query_parts_again vars targets q = λ i. (vars, (forms.items_of_targets targets i, q))

query_again : (q : Query) → tree.query (vars_of q) (targets_of q) (qual_of q) ≡ q
query_again (Query' vars marks targets q) = λ i. Query' vars (targets_again marks targets i).0 (targets_again marks targets i).1 q

query_over_exact : (t : Codec QTerm) (q : Codec QQual) → Exact t → Exact q → Exact (query_over t q)
query_over_exact t q te qe = mapped_exact _ _ _
    (λ p f. ap (λ r. (vars_of r, (targets_of r, qual_of r))) (forms.query_is p.0 p.1.0 p.1.1) ∙ query_parts_again p.0 p.1.0 p.1.1)
    (λ r f. forms.query_is (vars_of r) (targets_of r) (qual_of r) ∙ query_again r)
    (both_exact _ _ (list_exact number16 rel_key number16_exact rel_key_exact) (both_exact _ _ (list_exact number16 (target_over t) number16_exact (target_over_exact t te)) qe))

-- ---- the laws by levels

record ExactTrees (n : ℕ) : Type 0 where
  term : 1 ≤ n → Exact (trees n).term
  qual : 1 ≤ n → Exact (trees n).qual
  agg : 2 ≤ n → Exact (trees n).agg
  query : 2 ≤ n → Exact (trees n).query

trees_exact : (n : ℕ) → ExactTrees n
unfolding trees
trees_exact zero = record { term = λ h. absurd (omega arith); qual = λ h. absurd (omega arith); agg = λ h. absurd (omega arith); query = λ h. absurd (omega arith) }
trees_exact (suc n) = let e = trees_exact n in record {
  term = λ h. term_over_exact n _ _ (λ g. e.term (ltb-true 0 n g)) (λ g. e.agg (ltb-true 1 n g));
  qual = λ h. qual_over_exact n _ _ (λ g. e.term (ltb-true 0 n g)) (λ g. e.qual (ltb-true 0 n g));
  agg = λ h. agg_over_exact n _ _ _ (e.term (omega arith)) (e.qual (omega arith)) (λ g. e.query (ltb-true 1 n g));
  query = λ h. query_over_exact _ _ (e.term (omega arith)) (e.qual (omega arith));
}

pub term_exact : (n : ℕ) → 1 ≤ n → Exact (term n)
term_exact n h = (trees_exact n).term h

pub qual_exact : (n : ℕ) → 1 ≤ n → Exact (qual n)
qual_exact n h = (trees_exact n).qual h

pub agg_exact : (n : ℕ) → 2 ≤ n → Exact (agg n)
agg_exact n h = (trees_exact n).agg h

pub query_exact : (n : ℕ) → 2 ≤ n → Exact (query n)
query_exact n h = (trees_exact n).query h

pub source_exact : (n : ℕ) → Exact (source n)
source_exact n = source_over_exact n _ (λ g. (trees_exact n).query (ltb-true 1 n g))

pub target_exact : (n : ℕ) → 1 ≤ n → Exact (target n)
target_exact n h = target_over_exact _ (term_exact n h)
