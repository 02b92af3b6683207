-- The variables of terms and qualifications, form by form.
use Rattle.std.proofs.Common.{◌≡◌, ◌⊎◌, inl, inr, ℕ, ℤ, refl, ap, ◌∙◌, List, [], ◌∷◌, ◌++◌, append_assoc}
use Rattle.std.specs.List.{flat_map}
use denote.Hole.Carrier.{hidden}
use Rattle.calculus.proofs.WrittenForms.{agg_is}
use Rattle.calculus.specs.Written.{term_row}
use Rattle.calculus.specs.declared.operator.ArithOp.{ArithOp}
use Rattle.calculus.specs.declared.operator.CmpOp.{CmpOp}
use Rattle.calculus.specs.declared.statement.AggTerm.{AggTerm}
use Rattle.calculus.specs.declared.statement.Qual.{Qual}
use Rattle.calculus.specs.declared.statement.Qual.TheBlock.{shape-the_row-Qual-0, hidden-the_row-Qual-0, shape-the_row-Term-1, hidden-the_row-Term-1}
use Rattle.calculus.specs.declared.statement.Qual.TheVariants.{True, Cmp, And, Or, Not}
use Rattle.calculus.specs.declared.statement.Term.{Term}
use Rattle.calculus.specs.declared.statement.Term.TheVariants.{Int, Chars, Attr, Neg, Abs, Arith, Concat, Agg}
use Rattle.quel_meaning.specs.WrittenParts.{outer_vars, outer_vars_in_row, outer_vars_in_qual}

pub vars_int : (n : ℤ) → outer_vars (Int n) ≡ []
vars_int n = refl

pub vars_chars : (bytes : List ℕ) → outer_vars (Chars bytes) ≡ []
vars_chars bytes = refl

pub vars_attr : (var attr : List ℕ) → outer_vars (Attr var attr) ≡ var ∷ []
vars_attr var attr = refl

pub vars_neg : (t : Term) → outer_vars (Neg t) ≡ outer_vars t
unfolding shape-the_row-Term-1 hidden-the_row-Term-1 hidden
vars_neg t = refl

pub vars_abs : (t : Term) → outer_vars (Abs t) ≡ outer_vars t
unfolding shape-the_row-Term-1 hidden-the_row-Term-1 hidden
vars_abs t = refl

pub vars_arith : (op : ArithOp) (t u : Term) → outer_vars (Arith op t u) ≡ outer_vars t ++ outer_vars u
unfolding shape-the_row-Term-1 hidden-the_row-Term-1 hidden
vars_arith op t u = refl

pub vars_concat : (t u : Term) → outer_vars (Concat t u) ≡ outer_vars t ++ outer_vars u
unfolding shape-the_row-Term-1 hidden-the_row-Term-1 hidden
vars_concat t u = refl

-- the variables of a term that joins two
pub vars_pair : (t l r : Term) → ((op : ArithOp) × (t ≡ Arith op l r)) ⊎ (t ≡ Concat l r) → outer_vars t ≡ outer_vars l ++ outer_vars r
vars_pair t l r (inl w) = ap outer_vars w.1 ∙ vars_arith w.0 l r
vars_pair t l r (inr e) = ap outer_vars e ∙ vars_concat l r

vars_row : (ts : List Term) → outer_vars_in_row (term_row ts) ≡ flat_map outer_vars ts
vars_row [] = refl
vars_row (t ∷ ts) = ap (λ vs. outer_vars t ++ vs) (vars_row ts)

pub vars_agg : (g : AggTerm) → outer_vars (Agg g) ≡ flat_map outer_vars g.by
vars_agg g = ap outer_vars (agg_is g) ∙ vars_row g.by

pub qual_true : outer_vars_in_qual True ≡ []
qual_true = refl

pub qual_cmp : (op : CmpOp) (t u : Term) → outer_vars_in_qual (Cmp op t u) ≡ outer_vars t ++ outer_vars u
qual_cmp op t u = refl

pub qual_and : (p q : Qual) → outer_vars_in_qual (And p q) ≡ outer_vars_in_qual p ++ outer_vars_in_qual q
unfolding shape-the_row-Qual-0 hidden-the_row-Qual-0 hidden
qual_and p q = refl

pub qual_or : (p q : Qual) → outer_vars_in_qual (Or p q) ≡ outer_vars_in_qual p ++ outer_vars_in_qual q
unfolding shape-the_row-Qual-0 hidden-the_row-Qual-0 hidden
qual_or p q = refl

-- the variables of a qualification that joins two
pub quals_pair : (q l r : Qual) → (q ≡ And l r) ⊎ (q ≡ Or l r) → outer_vars_in_qual q ≡ outer_vars_in_qual l ++ outer_vars_in_qual r
quals_pair q l r (inl e) = ap outer_vars_in_qual e ∙ qual_and l r
quals_pair q l r (inr e) = ap outer_vars_in_qual e ∙ qual_or l r

pub qual_not : (p : Qual) → outer_vars_in_qual (Not p) ≡ outer_vars_in_qual p
unfolding shape-the_row-Qual-0 hidden-the_row-Qual-0 hidden
qual_not p = refl

-- ---- one behind the other

-- what is put behind in two steps is put behind
pub behind : {X : Type 0} (before between after xs ys : List X) → between ≡ before ++ xs → after ≡ between ++ ys → after ≡ before ++ (xs ++ ys)
behind before between after xs ys e f = f ∙ ap (λ vs. vs ++ ys) e ∙ append_assoc before xs ys

-- what is put into nothing in three steps
pub thrice : {X : Type 0} (start first second third xs ys zs : List X) → start ≡ [] → first ≡ start ++ xs → second ≡ first ++ ys → third ≡ second ++ zs → third ≡ xs ++ (ys ++ zs)
thrice start first second third xs ys zs d e f g =
    g ∙ ap (λ vs. vs ++ zs) f ∙ append_assoc first ys zs ∙ ap (λ vs. vs ++ (ys ++ zs)) (e ∙ ap (λ vs. vs ++ xs) d)
