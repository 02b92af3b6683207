-- What a walk finds of the constants of a tree, form by form.
use Rattle.std.proofs.Common.{refl, sym, ap, ◌∙◌, ℕ, ℤ, Bool, ◌&&◌, IsTrue, List, [], ◌∷◌}
use Rattle.calculus.specs.declared.operator.ArithOp.{ArithOp}
use Rattle.calculus.specs.declared.operator.CmpOp.{CmpOp}
use Rattle.calculus.specs.declared.query.AggSource.TheVariants.{Named, Rows}
use Rattle.calculus.specs.declared.query.QAgg.{QAgg}
use Rattle.calculus.specs.declared.query.QQual.{QQual}
use Rattle.calculus.specs.declared.query.QQual.TheVariants.{True, Cmp, Like, And, Or, Not}
use Rattle.calculus.specs.declared.query.QTerm.{QTerm}
use Rattle.calculus.specs.declared.query.QTerm.TheVariants.{Int, Chars, Attr, Neg, Abs, Arith, Concat, Agg}
use Rattle.calculus.specs.declared.query.Query.{Query, out-Query, roll-out-Query}
use Rattle.calculus.specs.declared.query.RelKey.{RelKey}
use Rattle.calculus.specs.declared.query.Target.{Target}
use Rattle.calculus.specs.Chars.{is_chars}
use Rattle.calculus.specs.Name.{is_name}
use Rattle.calculus.specs.Number.{has_64_bits}
use Rattle.calculus.specs.Spelled.{term_is_spelled, source_is_spelled, terms_are_spelled, qual_is_spelled, targets_are_spelled, query_is_spelled}
use Rattle.calculus.specs.Tree.{term_row, target_row}
use Rattle.calculus.proofs.Forms.{neg_is, abs_is, operation_is, concat_is, agg_is, both_is, either_is, negated_is, rows_is, query_is}
use Rattle.update_laws.specs.Walked.{term_is_walked, terms_are_walked, source_is_walked, aggregate_is_walked, target_is_walked, targets_are_walked, qual_is_walked}
use Rattle.update_laws.proofs.Texts.{both, each}

-- ---- terms

pub walked_int : (n : ℤ) → IsTrue (has_64_bits n) → IsTrue (term_is_walked (Int n))
unfolding term_is_walked
walked_int n h = h

pub walked_chars : (bytes : List ℕ) → IsTrue (is_chars bytes) → IsTrue (term_is_walked (Chars bytes))
unfolding term_is_walked
walked_chars bytes h = h

pub walked_attr : (var attr : ℕ) → IsTrue (term_is_walked (Attr var attr))
unfolding term_is_walked
walked_attr var attr = refl

pub walked_neg : (t : QTerm) → IsTrue (term_is_walked t) → IsTrue (term_is_walked (Neg t))
unfolding term_is_walked
walked_neg t h = ap term_is_spelled (neg_is t) ∙ h

pub walked_abs : (t : QTerm) → IsTrue (term_is_walked t) → IsTrue (term_is_walked (Abs t))
unfolding term_is_walked
walked_abs t h = ap term_is_spelled (abs_is t) ∙ h

pub walked_arith : (op : ArithOp) (t u : QTerm) → IsTrue (term_is_walked t) → IsTrue (term_is_walked u) → IsTrue (term_is_walked (Arith op t u))
unfolding term_is_walked
walked_arith op t u h k = ap term_is_spelled (operation_is op t u) ∙ each (term_is_spelled t) (term_is_spelled u) h k

pub walked_concat : (t u : QTerm) → IsTrue (term_is_walked t) → IsTrue (term_is_walked u) → IsTrue (term_is_walked (Concat t u))
unfolding term_is_walked
walked_concat t u h k = ap term_is_spelled (concat_is t u) ∙ each (term_is_spelled t) (term_is_spelled u) h k

pub walked_agg : (g : QAgg) → IsTrue (aggregate_is_walked g) → IsTrue (term_is_walked (Agg g))
unfolding term_is_walked aggregate_is_walked
walked_agg g h = ap term_is_spelled (agg_is g) ∙ h

-- ---- aggregates

row_walked : (ts : List QTerm) → IsTrue (terms_are_walked ts) → IsTrue (terms_are_spelled (term_row ts))
unfolding terms_are_walked term_is_walked
row_walked [] h = refl
row_walked (t ∷ ts) h = let parts = both (term_is_spelled t) (terms_are_walked ts) h in each (term_is_spelled t) (terms_are_spelled (term_row ts)) parts.0 (row_walked ts parts.1)

pub walked_aggregate : (g : QAgg) → IsTrue (source_is_walked g.source) → IsTrue (term_is_walked g.arg) → IsTrue (terms_are_walked g.by) → IsTrue (terms_are_walked g.link) → IsTrue (qual_is_walked g.qual)
    → IsTrue (aggregate_is_walked g)
unfolding aggregate_is_walked source_is_walked term_is_walked qual_is_walked
walked_aggregate g source arg by link qual = each _ _ source (each _ _ arg (each _ _ (row_walked g.by by) (each _ _ (row_walked g.link link) qual)))

pub walked_named : (key : RelKey) → IsTrue (source_is_walked (Named key))
unfolding source_is_walked
walked_named key = refl

pub walked_rows : (q : Query) → IsTrue (query_is_spelled q) → IsTrue (source_is_walked (Rows q))
unfolding source_is_walked
walked_rows q h = ap source_is_spelled (rows_is q) ∙ h

-- ---- qualifications

pub walked_true : IsTrue (qual_is_walked True)
unfolding qual_is_walked
walked_true = refl

pub walked_cmp : (op : CmpOp) (t u : QTerm) → IsTrue (term_is_walked t) → IsTrue (term_is_walked u) → IsTrue (qual_is_walked (Cmp op t u))
unfolding qual_is_walked term_is_walked
walked_cmp op t u h k = each (term_is_spelled t) (term_is_spelled u) h k

pub walked_like : (t : QTerm) (pattern : List ℕ) (same : Bool) → IsTrue (term_is_walked t) → IsTrue (is_chars pattern) → IsTrue (qual_is_walked (Like t pattern same))
unfolding qual_is_walked term_is_walked
walked_like t pattern same h k = each (term_is_spelled t) (is_chars pattern) h k

pub walked_and : (p q : QQual) → IsTrue (qual_is_walked p) → IsTrue (qual_is_walked q) → IsTrue (qual_is_walked (And p q))
unfolding qual_is_walked
walked_and p q h k = ap qual_is_spelled (both_is p q) ∙ each (qual_is_spelled p) (qual_is_spelled q) h k

pub walked_or : (p q : QQual) → IsTrue (qual_is_walked p) → IsTrue (qual_is_walked q) → IsTrue (qual_is_walked (Or p q))
unfolding qual_is_walked
walked_or p q h k = ap qual_is_spelled (either_is p q) ∙ each (qual_is_spelled p) (qual_is_spelled q) h k

pub walked_not : (p : QQual) → IsTrue (qual_is_walked p) → IsTrue (qual_is_walked (Not p))
unfolding qual_is_walked
walked_not p h = ap qual_is_spelled (negated_is p) ∙ h

-- ---- queries

pub walked_target : (name : List ℕ) (t : QTerm) → IsTrue (is_name name) → IsTrue (term_is_walked t) → IsTrue (target_is_walked name t)
unfolding target_is_walked term_is_walked
walked_target name t h k = each (is_name name) (term_is_spelled t) h k

targets_walked : (ts : List Target) → IsTrue (targets_are_walked ts) → IsTrue (targets_are_spelled (target_row ts))
unfolding targets_are_walked target_is_walked term_is_walked
targets_walked [] h = refl
targets_walked (t ∷ ts) h =
    let parts = both (is_name t.name && term_is_spelled t.term) (targets_are_walked ts) h in
    let first = both (is_name t.name) (term_is_spelled t.term) parts.0 in
    each (is_name t.name) _ first.0 (each (term_is_spelled t.term) (targets_are_spelled (target_row ts)) first.1 (targets_walked ts parts.1))

-- the query, as the program reads it
pub walked_query : (q : Query) → IsTrue (targets_are_walked (out-Query q).targets) → IsTrue (qual_is_walked (out-Query q).qual) → IsTrue (query_is_spelled q)
unfolding qual_is_walked
walked_query q h k =
    ap query_is_spelled (sym (roll-out-Query q) ∙ query_is (out-Query q).vars (out-Query q).targets (out-Query q).qual)
    ∙ each (targets_are_spelled (target_row (out-Query q).targets)) (qual_is_spelled (out-Query q).qual) (targets_walked (out-Query q).targets h) k
