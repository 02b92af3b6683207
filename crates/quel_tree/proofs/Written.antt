-- What was written part by part is the tree that the parts are of.
use denote.Hole.Carrier.{out, roll}
use Rattle.std.proofs.Common.{◌≡◌, ℕ, zero, suc, ℤ, Bool, List, [], ◌∷◌, ◌++◌, refl, sym, ap, subst, ◌∙◌, append_assoc}
use Rattle.tree_words.proofs.Variants.{wrote_variant}
use Rattle.tree_words.specs.Codec.{Codec, Writes, IsVariant}
use Rattle.tree_words.specs.Words.{both, byte, list, nothing, nowhere, number16, number64}
use Rattle.tree_words.specs.Ways.{flag}
use Rattle.calculus.specs.declared.operator.AggOp.{AggOp}
use Rattle.calculus.specs.declared.operator.ArithOp.{ArithOp}
use Rattle.calculus.specs.declared.operator.CmpOp.{CmpOp}
use Rattle.calculus.specs.declared.query.AggSource.{AggSource}
use Rattle.calculus.specs.declared.query.AggSource.TheVariants as sources
use Rattle.calculus.specs.declared.query.QAgg.{QAgg}
use Rattle.calculus.specs.declared.query.QQual.{QQual}
use Rattle.calculus.specs.declared.query.QQual.TheVariants as quals
use Rattle.calculus.specs.declared.query.QTerm.{QTerm, items-the_row-QTerm}
use Rattle.calculus.specs.declared.query.QTerm.TheVariants as terms
use Rattle.calculus.specs.declared.query.Query.{Query, Query', out-Query, roll-Query, roll-out-Query}
use Rattle.calculus.specs.declared.query.AggSource.TheBlock.{items_hidden-the_row-Target-5}
use Rattle.calculus.specs.declared.query.RelKey.{RelKey}
use Rattle.calculus.specs.declared.query.Target.{Target}
use Rattle.calculus.specs.QueryParts.{vars_of, targets_of, qual_of}
use Rattle.calculus.specs.Tree as tree
use Rattle.calculus.proofs.Forms as forms
use Rattle.quel_tree.specs.Names.{chars}
use Rattle.quel_tree.specs.Operators.{agg_op, arith_op, cmp_op}
use Rattle.quel_tree.specs.Relations.{rel_key}
use Rattle.quel_tree.specs.Queries.{term, qual, agg, query, source, target, trees}

-- with one level less; with none there is nothing
abbrev pub below : {A : Type 0} → (ℕ → Codec A) → ℕ → Codec A
below c zero = nowhere
below c (suc n) = c n

pub wrote_both : {A B : Type 0} (c : ℕ → Codec A) (d : ℕ → Codec B) (a : A) (b : B) (old mid new : List ℕ) → Writes c a old mid → Writes d b mid new → Writes (λ n. both (c n) (d n)) (a, b) old new
wrote_both c d a b old mid new first second n f = second n f.1 ∙ ap (λ bs. bs ++ (d n).write b) (first n f.0) ∙ append_assoc old ((c n).write a) ((d n).write b)

wrote_less : {B : Type 0} (c : ℕ → Codec B) (fields : B) (old new : List ℕ) → Writes c fields old new → Writes (below c) fields old new
wrote_less c fields old new w zero f = absurd f
wrote_less c fields old new w (suc n) f = w n f

-- a variant whose fields have one level less
pub wrote_below : {A B : Type 0} (codec : ℕ → Codec A) (whole : A) (tag : ℕ) (c : ℕ → Codec B) (fields : B) (old mid new : List ℕ) → IsVariant codec whole tag (below c) fields → mid ≡ old ++ (tag ∷ []) → Writes c fields mid new → Writes codec whole old new
wrote_below codec whole tag c fields old mid new is e w = wrote_variant codec whole tag (below c) fields old mid new is e (wrote_less c fields mid new w)

-- ---- terms

pub int_is : (k : ℤ) → IsVariant term (terms.Int k) 0 (λ _. number64) k
unfolding trees
int_is k zero f = absurd f
int_is k (suc n) f = (f, refl)

pub chars_is : (bs : List ℕ) → IsVariant term (terms.Chars bs) 1 (λ _. chars) bs
unfolding trees
chars_is bs zero f = absurd f
chars_is bs (suc n) f = (f, refl)

pub attr_is : (var attr : ℕ) → IsVariant term (terms.Attr var attr) 2 (λ _. both byte byte) (var, attr)
unfolding trees
attr_is var attr zero f = absurd f
attr_is var attr (suc n) f = (f, refl)

neg_of : (t : QTerm) → IsVariant term (tree.neg t) 3 (below term) t
unfolding trees
neg_of t zero f = absurd f
neg_of t (suc n) f = (f.1, refl)

pub neg_is : (t : QTerm) → IsVariant term (terms.Neg t) 3 (below term) t
neg_is t = subst (λ u. IsVariant term u 3 (below term) t) (sym (forms.neg_is t)) (neg_of t)

abs_of : (t : QTerm) → IsVariant term (tree.abs t) 4 (below term) t
unfolding trees
abs_of t zero f = absurd f
abs_of t (suc n) f = (f.1, refl)

pub abs_is : (t : QTerm) → IsVariant term (terms.Abs t) 4 (below term) t
abs_is t = subst (λ u. IsVariant term u 4 (below term) t) (sym (forms.abs_is t)) (abs_of t)

-- the operation and both terms, with at most so many levels
abbrev pub operands : ℕ → Codec (ArithOp × (QTerm × QTerm))
operands n = both arith_op (both (term n) (term n))

operation_of : (op : ArithOp) (t u : QTerm) → IsVariant term (tree.operation op t u) 5 (below operands) (op, (t, u))
unfolding trees
operation_of op t u zero f = absurd f
operation_of op t u (suc n) f = (f.1, refl)

pub operation_is : (op : ArithOp) (t u : QTerm) → IsVariant term (terms.Arith op t u) 5 (below operands) (op, (t, u))
operation_is op t u = subst (λ v. IsVariant term v 5 (below operands) (op, (t, u))) (sym (forms.operation_is op t u)) (operation_of op t u)

-- two terms, with at most so many levels
abbrev pub two_terms : ℕ → Codec (QTerm × QTerm)
two_terms n = both (term n) (term n)

concat_of : (t u : QTerm) → IsVariant term (tree.concat t u) 6 (below two_terms) (t, u)
unfolding trees
concat_of t u zero f = absurd f
concat_of t u (suc n) f = (f.1, refl)

pub concat_is : (t u : QTerm) → IsVariant term (terms.Concat t u) 6 (below two_terms) (t, u)
concat_is t u = subst (λ v. IsVariant term v 6 (below two_terms) (t, u)) (sym (forms.concat_is t u)) (concat_of t u)

-- an aggregate, taken out of the term that it is
same_agg : (g : QAgg) → ◌≡◌ {A = QAgg} (record { slot = g.slot; op = g.op; source = g.source; arg = g.arg; by = items-the_row-QTerm _ (tree.term_row g.by); link = items-the_row-QTerm _ (tree.term_row g.link); qual = g.qual }) g
same_agg g = λ i. record { slot = g.slot; op = g.op; source = g.source; arg = g.arg; by = forms.items_of_terms g.by i; link = forms.items_of_terms g.link i; qual = g.qual }

aggregate_of : (g : QAgg) → IsVariant term (tree.aggregate g) 7 (below agg) (record { slot = g.slot; op = g.op; source = g.source; arg = g.arg; by = items-the_row-QTerm _ (tree.term_row g.by); link = items-the_row-QTerm _ (tree.term_row g.link); qual = g.qual })
unfolding trees
aggregate_of g zero f = absurd f
aggregate_of g (suc n) f = (f.1, refl)

pub aggregate_is : (g : QAgg) → IsVariant term (terms.Agg g) 7 (below agg) g
aggregate_is g = subst (λ v. IsVariant term v 7 (below agg) g) (sym (forms.agg_is g)) (subst (λ h. IsVariant term (tree.aggregate g) 7 (below agg) h) (same_agg g) (aggregate_of g))

-- ---- qualifications

pub true_is : IsVariant qual quals.True 0 (λ _. nothing) tt
unfolding trees
true_is zero f = absurd f
true_is (suc n) f = (f, refl)

-- the comparison and both terms, with at most so many levels
abbrev pub compared : ℕ → Codec (CmpOp × (QTerm × QTerm))
compared n = both cmp_op (both (term n) (term n))

pub comparison_is : (op : CmpOp) (t u : QTerm) → IsVariant qual (quals.Cmp op t u) 1 (below compared) (op, (t, u))
unfolding trees
comparison_is op t u zero f = absurd f
comparison_is op t u (suc n) f = (f.1, refl)

-- a term, the pattern and whether it has to match, with at most so many levels
abbrev pub matched : ℕ → Codec (QTerm × (List ℕ × Bool))
matched n = both (term n) (both chars flag)

pub match_is : (t : QTerm) (pattern : List ℕ) (same : Bool) → IsVariant qual (quals.Like t pattern same) 2 (below matched) (t, (pattern, same))
unfolding trees
match_is t pattern same zero f = absurd f
match_is t pattern same (suc n) f = (f.1, refl)

-- two qualifications, with at most so many levels
abbrev pub two_quals : ℕ → Codec (QQual × QQual)
two_quals n = both (qual n) (qual n)

and_of : (p q : QQual) → IsVariant qual (tree.both p q) 3 (below two_quals) (p, q)
unfolding trees
and_of p q zero f = absurd f
and_of p q (suc n) f = (f.1, refl)

pub and_is : (p q : QQual) → IsVariant qual (quals.And p q) 3 (below two_quals) (p, q)
and_is p q = subst (λ v. IsVariant qual v 3 (below two_quals) (p, q)) (sym (forms.both_is p q)) (and_of p q)

or_of : (p q : QQual) → IsVariant qual (tree.either p q) 4 (below two_quals) (p, q)
unfolding trees
or_of p q zero f = absurd f
or_of p q (suc n) f = (f.1, refl)

pub or_is : (p q : QQual) → IsVariant qual (quals.Or p q) 4 (below two_quals) (p, q)
or_is p q = subst (λ v. IsVariant qual v 4 (below two_quals) (p, q)) (sym (forms.either_is p q)) (or_of p q)

not_of : (q : QQual) → IsVariant qual (tree.negated q) 5 (below qual) q
unfolding trees
not_of q zero f = absurd f
not_of q (suc n) f = (f.1, refl)

pub not_is : (q : QQual) → IsVariant qual (quals.Not q) 5 (below qual) q
not_is q = subst (λ v. IsVariant qual v 5 (below qual) q) (sym (forms.negated_is q)) (not_of q)

-- ---- sources, aggregates and queries

source_of : (q : Query) → IsVariant source (tree.rows_of_query q) 1 query q
source_of q n f = (f.1, refl)

pub rows_is : (q : Query) → IsVariant source (sources.Rows q) 1 query q
rows_is q = subst (λ v. IsVariant source v 1 query q) (sym (forms.rows_is q)) (source_of q)

-- what an aggregate is made of, with at most so many levels
abbrev pub agg_parts : ℕ → Codec (ℕ × (AggOp × (AggSource × (QTerm × (List QTerm × (List QTerm × QQual))))))
agg_parts n = both number16 (both agg_op (both (source n) (both (term n) (both (list number16 (term n)) (both (list number16 (term n)) (qual n))))))

pub wrote_agg : (g : QAgg) (old new : List ℕ) → Writes agg_parts (g.slot, (g.op, (g.source, (g.arg, (g.by, (g.link, g.qual)))))) old new → Writes agg g old new
unfolding trees
wrote_agg g old new w zero f = absurd f
wrote_agg g old new w (suc n) f = w n f

-- what a query is made of, with at most so many levels
abbrev pub query_parts : ℕ → Codec (List RelKey × (List Target × QQual))
query_parts n = both (list number16 rel_key) (both (list number16 (target n)) (qual n))

-- a query's parts, as the program reads them

vars_read : (q : Query) → (out-Query q).vars ≡ vars_of q
unfolding out-Query out
vars_read (Query' vars marks targets q) = refl

qual_read : (q : Query) → (out-Query q).qual ≡ qual_of q
unfolding out-Query out
qual_read (Query' vars marks targets q) = refl

targets_read : (q : Query) → (out-Query q).targets ≡ targets_of q
unfolding roll-Query roll
targets_read q = sym (items_hidden-the_row-Target-5 (out-Query q).targets) ∙ ap targets_of (roll-out-Query q)

as_read : (q : Query) → ◌≡◌ {A = List RelKey × (List Target × QQual)} ((out-Query q).vars, ((out-Query q).targets, (out-Query q).qual)) (vars_of q, (targets_of q, qual_of q))
as_read q = λ i. (vars_read q i, (targets_read q i, qual_read q i))

wrote_parts : (q : Query) (old new : List ℕ) → Writes query_parts (vars_of q, (targets_of q, qual_of q)) old new → Writes query q old new
unfolding trees
wrote_parts q old new w zero f = absurd f
wrote_parts q old new w (suc n) f = w n f

pub wrote_query : (q : Query) (old new : List ℕ) → Writes query_parts ((out-Query q).vars, ((out-Query q).targets, (out-Query q).qual)) old new → Writes query q old new
wrote_query q old new w = wrote_parts q old new (subst (λ p. Writes query_parts p old new) (as_read q) w)
