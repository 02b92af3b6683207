-- The aggregates in terms and qualifications, form by form.
use Rattle.std.proofs.Common.{◌≡◌, ◌⊎◌, inl, inr, refl, sym, ap, ◌∙◌, ℕ, ℤ, Bool, List, [], ◌∷◌, ◌++◌, append_assoc, append-nil}
use denote.Hole.Carrier.{hidden}
use Rattle.calculus.specs.declared.query.AggSource.TheBlock.{shape-the_row-QTerm-2, hidden-the_row-QTerm-2, shape-the_row-QQual-1, hidden-the_row-QQual-1}
use Rattle.calculus.specs.declared.operator.ArithOp.{ArithOp}
use Rattle.calculus.specs.declared.operator.CmpOp.{CmpOp}
use Rattle.calculus.specs.declared.query.QTerm.{QTerm}
use Rattle.calculus.specs.declared.query.QTerm.TheVariants.{Int, Chars, Attr, Neg, Abs, Arith, Concat, Agg}
use Rattle.calculus.specs.declared.query.QQual.{QQual}
use Rattle.calculus.specs.declared.query.QQual.TheVariants.{True, Cmp, Like, And, Or, Not}
use Rattle.calculus.specs.declared.query.QAgg.{QAgg}
use Rattle.calculus.specs.QueryParts.{term_aggregates, qual_aggregates}
use Rattle.calculus.proofs.Forms.{agg_is, items_of_terms}

pub in_int : (n : ℤ) → term_aggregates (Int n) ≡ []
unfolding term_aggregates
in_int n = refl

pub in_chars : (bytes : List ℕ) → term_aggregates (Chars bytes) ≡ []
unfolding term_aggregates
in_chars bytes = refl

pub in_attr : (var attr : ℕ) → term_aggregates (Attr var attr) ≡ []
unfolding term_aggregates
in_attr var attr = refl

pub in_neg : (t : QTerm) → term_aggregates (Neg t) ≡ term_aggregates t
unfolding shape-the_row-QTerm-2 hidden-the_row-QTerm-2 hidden term_aggregates
in_neg t = refl

pub in_abs : (t : QTerm) → term_aggregates (Abs t) ≡ term_aggregates t
unfolding shape-the_row-QTerm-2 hidden-the_row-QTerm-2 hidden term_aggregates
in_abs t = refl

pub in_arith : (op : ArithOp) (t u : QTerm) → term_aggregates (Arith op t u) ≡ term_aggregates t ++ term_aggregates u
unfolding shape-the_row-QTerm-2 hidden-the_row-QTerm-2 hidden term_aggregates
in_arith op t u = refl

pub in_concat : (t u : QTerm) → term_aggregates (Concat t u) ≡ term_aggregates t ++ term_aggregates u
unfolding shape-the_row-QTerm-2 hidden-the_row-QTerm-2 hidden term_aggregates
in_concat t u = refl

-- a term without parts has none
pub alone : (t : QTerm) → ((n : ℤ) × (t ≡ Int n)) ⊎ (((bytes : List ℕ) × (t ≡ Chars bytes)) ⊎ ((var : ℕ) × (attr : ℕ) × (t ≡ Attr var attr))) → term_aggregates t ≡ []
alone t (inl w) = ap term_aggregates w.1 ∙ in_int w.0
alone t (inr (inl w)) = ap term_aggregates w.1 ∙ in_chars w.0
alone t (inr (inr w)) = ap term_aggregates w.2 ∙ in_attr w.0 w.1

-- the aggregates of a term that joins two
pub in_pair : (t l r : QTerm) → ((op : ArithOp) × (t ≡ Arith op l r)) ⊎ (t ≡ Concat l r) → term_aggregates t ≡ term_aggregates l ++ term_aggregates r
in_pair t l r (inl w) = ap term_aggregates w.1 ∙ in_arith w.0 l r
in_pair t l r (inr e) = ap term_aggregates e ∙ in_concat l r

pub in_agg : (g : QAgg) → term_aggregates (Agg g) ≡ g ∷ []
unfolding term_aggregates
in_agg g =
    ap term_aggregates (agg_is g)
    ∙ (λ i. record { slot = g.slot; op = g.op; source = g.source; arg = g.arg; by = items_of_terms g.by i; link = items_of_terms g.link i; qual = g.qual } ∷ [])

pub in_true : qual_aggregates True ≡ []
unfolding qual_aggregates
in_true = refl

pub in_cmp : (op : CmpOp) (t u : QTerm) → qual_aggregates (Cmp op t u) ≡ term_aggregates t ++ term_aggregates u
unfolding qual_aggregates
in_cmp op t u = refl

pub in_like : (t : QTerm) (pattern : List ℕ) (same : Bool) → qual_aggregates (Like t pattern same) ≡ term_aggregates t
unfolding qual_aggregates
in_like t pattern same = refl

pub in_and : (p q : QQual) → qual_aggregates (And p q) ≡ qual_aggregates p ++ qual_aggregates q
unfolding shape-the_row-QQual-1 hidden-the_row-QQual-1 hidden qual_aggregates
in_and p q = refl

pub in_or : (p q : QQual) → qual_aggregates (Or p q) ≡ qual_aggregates p ++ qual_aggregates q
unfolding shape-the_row-QQual-1 hidden-the_row-QQual-1 hidden qual_aggregates
in_or p q = refl

pub in_not : (p : QQual) → qual_aggregates (Not p) ≡ qual_aggregates p
unfolding shape-the_row-QQual-1 hidden-the_row-QQual-1 hidden qual_aggregates
in_not p = refl

-- the aggregates of a qualification that joins two
pub in_quals : (q l r : QQual) → (q ≡ And l r) ⊎ (q ≡ Or l r) → qual_aggregates q ≡ qual_aggregates l ++ qual_aggregates r
in_quals q l r (inl e) = ap qual_aggregates e ∙ in_and l r
in_quals q l r (inr e) = ap qual_aggregates e ∙ in_or l r

-- what is put behind in two steps is put behind
pub behind : {X : Type 0} (before between after xs ys : List X) → between ≡ before ++ xs → after ≡ between ++ ys → after ≡ before ++ (xs ++ ys)
behind before between after xs ys e f = f ∙ ap (λ vs. vs ++ ys) e ∙ append_assoc before xs ys

-- what nothing is put behind stays
pub stays : {X : Type 0} (xs ys : List X) → ys ≡ [] → xs ≡ xs ++ ys
stays xs ys e = sym (ap (λ ys. xs ++ ys) e ∙ append-nil xs)

-- what one thing is put behind
pub one_behind : {X : Type 0} (before after xs : List X) (x : X) → after ≡ before ++ x ∷ [] → xs ≡ x ∷ [] → after ≡ before ++ xs
one_behind before after xs x e f = e ∙ ap (λ ys. before ++ ys) (sym f)
