-- The names of terms and qualifications, form by form.
use Rattle.std.proofs.Common.{◌≡◌, ◌⊎◌, inl, inr, ℕ, ℤ, refl, ap, ◌∙◌, sym, List, [], ◌∷◌, ◌++◌, append_assoc}
use Rattle.std.specs.List.{flat_map}
use Rattle.std.proofs.lemmas.List.{map-append}
use denote.Hole.Carrier.{hidden}
use Rattle.calculus.proofs.WrittenForms.{agg_is}
use Rattle.calculus.specs.Written.{term_row}
use Rattle.calculus.specs.declared.operator.ArithOp.{ArithOp}
use Rattle.calculus.specs.declared.operator.CmpOp.{CmpOp}
use Rattle.calculus.specs.declared.statement.AggTerm.{AggTerm}
use Rattle.calculus.specs.declared.statement.Qual.{Qual}
use Rattle.calculus.specs.declared.statement.Qual.TheBlock.{shape-the_row-Qual-0, hidden-the_row-Qual-0, shape-the_row-Term-1, hidden-the_row-Term-1}
use Rattle.calculus.specs.declared.statement.Qual.TheVariants.{True, Cmp, And, Or, Not}
use Rattle.calculus.specs.declared.statement.Term.{Term}
use Rattle.calculus.specs.declared.statement.Term.TheVariants.{Int, Chars, Attr, Neg, Abs, Arith, Concat, Agg}
use Rattle.quel_meaning.specs.Naming.{AttrOf, dotted}
use Rattle.quel_meaning.specs.WrittenParts.{Dotted, attributes, attributes_in_row, attributes_in_qual}

-- variables with their attributes, one list behind the other
pub dotted_both : (ds es : List Dotted) → dotted (ds ++ es) ≡ dotted ds ++ dotted es
dotted_both ds es = map-append (λ d. AttrOf d.0 d.1) ds es

pub in_int : (n : ℤ) → dotted (attributes (Int n)) ≡ []
in_int n = refl

pub in_chars : (bytes : List ℕ) → dotted (attributes (Chars bytes)) ≡ []
in_chars bytes = refl

pub in_attr : (var attr : List ℕ) → dotted (attributes (Attr var attr)) ≡ AttrOf var attr ∷ []
in_attr var attr = refl

pub in_neg : (t : Term) → dotted (attributes (Neg t)) ≡ dotted (attributes t)
unfolding shape-the_row-Term-1 hidden-the_row-Term-1 hidden
in_neg t = refl

pub in_abs : (t : Term) → dotted (attributes (Abs t)) ≡ dotted (attributes t)
unfolding shape-the_row-Term-1 hidden-the_row-Term-1 hidden
in_abs t = refl

pub in_arith : (op : ArithOp) (t u : Term) → dotted (attributes (Arith op t u)) ≡ dotted (attributes t) ++ dotted (attributes u)
unfolding shape-the_row-Term-1 hidden-the_row-Term-1 hidden
in_arith op t u = dotted_both (attributes t) (attributes u)

pub in_concat : (t u : Term) → dotted (attributes (Concat t u)) ≡ dotted (attributes t) ++ dotted (attributes u)
unfolding shape-the_row-Term-1 hidden-the_row-Term-1 hidden
in_concat t u = dotted_both (attributes t) (attributes u)

-- the names of a term that joins two
pub in_pair : (t l r : Term) → ((op : ArithOp) × (t ≡ Arith op l r)) ⊎ (t ≡ Concat l r) → dotted (attributes t) ≡ dotted (attributes l) ++ dotted (attributes r)
in_pair t l r (inl w) = ap (λ x. dotted (attributes x)) w.1 ∙ in_arith w.0 l r
in_pair t l r (inr e) = ap (λ x. dotted (attributes x)) e ∙ in_concat l r

in_row : (ts : List Term) → attributes_in_row (term_row ts) ≡ flat_map attributes ts
in_row [] = refl
in_row (t ∷ ts) = ap (λ ds. attributes t ++ ds) (in_row ts)

pub in_agg : (g : AggTerm) → dotted (attributes (Agg g)) ≡ dotted (attributes g.arg ++ (flat_map attributes g.by ++ attributes_in_qual g.qual))
in_agg g = ap (λ t. dotted (attributes t)) (agg_is g) ∙ ap (λ ds. dotted (attributes g.arg ++ (ds ++ attributes_in_qual g.qual))) (in_row g.by)

-- the three parts of an aggregate
pub in_parts : (g : AggTerm)
    → dotted (attributes g.arg ++ (flat_map attributes g.by ++ attributes_in_qual g.qual)) ≡ (dotted (attributes g.arg) ++ dotted (flat_map attributes g.by)) ++ dotted (attributes_in_qual g.qual)
in_parts g =
    dotted_both (attributes g.arg) (flat_map attributes g.by ++ attributes_in_qual g.qual)
    ∙ ap (λ ms. dotted (attributes g.arg) ++ ms) (dotted_both (flat_map attributes g.by) (attributes_in_qual g.qual))
    ∙ sym (append_assoc (dotted (attributes g.arg)) (dotted (flat_map attributes g.by)) (dotted (attributes_in_qual g.qual)))

pub in_true : dotted (attributes_in_qual True) ≡ []
in_true = refl

pub in_cmp : (op : CmpOp) (t u : Term) → dotted (attributes_in_qual (Cmp op t u)) ≡ dotted (attributes t) ++ dotted (attributes u)
in_cmp op t u = dotted_both (attributes t) (attributes u)

pub in_and : (p q : Qual) → dotted (attributes_in_qual (And p q)) ≡ dotted (attributes_in_qual p) ++ dotted (attributes_in_qual q)
unfolding shape-the_row-Qual-0 hidden-the_row-Qual-0 hidden
in_and p q = dotted_both (attributes_in_qual p) (attributes_in_qual q)

pub in_or : (p q : Qual) → dotted (attributes_in_qual (Or p q)) ≡ dotted (attributes_in_qual p) ++ dotted (attributes_in_qual q)
unfolding shape-the_row-Qual-0 hidden-the_row-Qual-0 hidden
in_or p q = dotted_both (attributes_in_qual p) (attributes_in_qual q)

pub in_not : (p : Qual) → dotted (attributes_in_qual (Not p)) ≡ dotted (attributes_in_qual p)
unfolding shape-the_row-Qual-0 hidden-the_row-Qual-0 hidden
in_not p = refl

-- the names of a qualification that joins two
pub in_quals : (q l r : Qual) → (q ≡ And l r) ⊎ (q ≡ Or l r) → dotted (attributes_in_qual q) ≡ dotted (attributes_in_qual l) ++ dotted (attributes_in_qual r)
in_quals q l r (inl e) = ap (λ x. dotted (attributes_in_qual x)) e ∙ in_and l r
in_quals q l r (inr e) = ap (λ x. dotted (attributes_in_qual x)) e ∙ in_or l r
