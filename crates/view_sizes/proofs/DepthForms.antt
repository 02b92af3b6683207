-- How deep terms and qualifications are, form by form, and that this is their levels where they hold no aggregate.
use Rattle.std.proofs.Common.{◌≡◌, refl, ap, ap₂, ℕ, ℤ, ◌+◌, max, Bool, List, []}
use denote.Hole.Carrier.{hidden}
use Rattle.calculus.specs.declared.query.AggSource.TheBlock.{shape-the_row-QTerm-2, hidden-the_row-QTerm-2, shape-the_row-QQual-1, hidden-the_row-QQual-1, shape-the_row-QAgg-4, hidden-the_row-QAgg-4}
use Rattle.calculus.specs.declared.operator.ArithOp.{ArithOp}
use Rattle.calculus.specs.declared.operator.CmpOp.{CmpOp}
use Rattle.calculus.specs.declared.query.QTerm.{QTerm, Agg', Row_of-QAgg, end_of-QAgg, more_of-QAgg}
use Rattle.calculus.specs.declared.query.QTerm.TheVariants.{Int, Chars, Attr, Neg, Abs, Arith, Concat, Agg}
use Rattle.calculus.specs.declared.query.QQual.{QQual}
use Rattle.calculus.specs.declared.query.QQual.TheVariants.{True, Cmp, Like, And, Or, Not}
use Rattle.calculus.specs.declared.query.QAgg.{QAgg}
use Rattle.calculus.specs.Tree.{neg, abs, operation, concat, both, either, negated}
use Rattle.calculus.specs.QueryParts.{aggregates_of, term_aggregates, qual_aggregates}
use Rattle.calculus.specs.TreeLevels.{term_levels, qual_levels, aggregate_levels}
use Rattle.quel_meaning.proofs.KindFacts.{none_before, none_behind}
use Rattle.view_sizes.specs.Sized.{term_depth, qual_depth}

pub depth_int : (n : ℤ) → term_depth (Int n) ≡ 1
unfolding term_depth
depth_int n = refl

pub depth_chars : (bytes : List ℕ) → term_depth (Chars bytes) ≡ 1
unfolding term_depth
depth_chars bytes = refl

pub depth_attr : (var attr : ℕ) → term_depth (Attr var attr) ≡ 1
unfolding term_depth
depth_attr var attr = refl

pub depth_neg : (t : QTerm) → term_depth (Neg t) ≡ 1 + term_depth t
unfolding shape-the_row-QTerm-2 hidden-the_row-QTerm-2 hidden term_depth
depth_neg t = refl

pub depth_abs : (t : QTerm) → term_depth (Abs t) ≡ 1 + term_depth t
unfolding shape-the_row-QTerm-2 hidden-the_row-QTerm-2 hidden term_depth
depth_abs t = refl

pub depth_arith : (op : ArithOp) (t u : QTerm) → term_depth (Arith op t u) ≡ 1 + max (term_depth t) (term_depth u)
unfolding shape-the_row-QTerm-2 hidden-the_row-QTerm-2 hidden term_depth
depth_arith op t u = refl

pub depth_concat : (t u : QTerm) → term_depth (Concat t u) ≡ 1 + max (term_depth t) (term_depth u)
unfolding shape-the_row-QTerm-2 hidden-the_row-QTerm-2 hidden term_depth
depth_concat t u = refl

pub depth_agg : (g : QAgg) → term_depth (Agg g) ≡ 1
unfolding shape-the_row-QAgg-4 hidden-the_row-QAgg-4 hidden term_depth
depth_agg g = refl

pub depth_true : qual_depth True ≡ 1
unfolding qual_depth
depth_true = refl

pub depth_cmp : (op : CmpOp) (t u : QTerm) → qual_depth (Cmp op t u) ≡ 1 + max (term_depth t) (term_depth u)
unfolding qual_depth
depth_cmp op t u = refl

pub depth_like : (t : QTerm) (pattern : List ℕ) (same : Bool) → qual_depth (Like t pattern same) ≡ 1 + term_depth t
unfolding qual_depth
depth_like t pattern same = refl

pub depth_and : (p q : QQual) → qual_depth (And p q) ≡ 1 + max (qual_depth p) (qual_depth q)
unfolding shape-the_row-QQual-1 hidden-the_row-QQual-1 hidden qual_depth
depth_and p q = refl

pub depth_or : (p q : QQual) → qual_depth (Or p q) ≡ 1 + max (qual_depth p) (qual_depth q)
unfolding shape-the_row-QQual-1 hidden-the_row-QQual-1 hidden qual_depth
depth_or p q = refl

pub depth_not : (p : QQual) → qual_depth (Not p) ≡ 1 + qual_depth p
unfolding shape-the_row-QQual-1 hidden-the_row-QQual-1 hidden qual_depth
depth_not p = refl

-- ---- where no aggregate stands

row_level : {n : _} → (row : Row_of-QAgg n) → aggregates_of row ≡ [] → 1 ≡ 1 + aggregate_levels row
row_level end_of-QAgg h = refl
row_level (more_of-QAgg slot op source arg bys by links link qual rest) h = absurd (cc h)

pub term_alone : (t : QTerm) → term_aggregates t ≡ [] → term_depth t ≡ term_levels t
unfolding term_aggregates term_depth
term_alone (Int n) h = refl
term_alone (Chars bytes) h = refl
term_alone (Attr var attr) h = refl
term_alone (neg t) h = ap (λ n. 1 + n) (term_alone t h)
term_alone (abs t) h = ap (λ n. 1 + n) (term_alone t h)
term_alone (operation op t u) h = ap₂ (λ m n. 1 + max m n) (term_alone t (none_before _ (term_aggregates u) h)) (term_alone u (none_behind (term_aggregates t) _ h))
term_alone (concat t u) h = ap₂ (λ m n. 1 + max m n) (term_alone t (none_before _ (term_aggregates u) h)) (term_alone u (none_behind (term_aggregates t) _ h))
term_alone (Agg' mark row) h = row_level row h

pub qual_alone : (q : QQual) → qual_aggregates q ≡ [] → qual_depth q ≡ qual_levels q
unfolding qual_aggregates qual_depth
qual_alone True h = refl
qual_alone (Cmp op t u) h = ap₂ (λ m n. 1 + max m n) (term_alone t (none_before _ (term_aggregates u) h)) (term_alone u (none_behind (term_aggregates t) _ h))
qual_alone (Like t pattern same) h = ap (λ n. 1 + n) (term_alone t h)
qual_alone (both p q) h = ap₂ (λ m n. 1 + max m n) (qual_alone p (none_before _ (qual_aggregates q) h)) (qual_alone q (none_behind (qual_aggregates p) _ h))
qual_alone (either p q) h = ap₂ (λ m n. 1 + max m n) (qual_alone p (none_before _ (qual_aggregates q) h)) (qual_alone q (none_behind (qual_aggregates p) _ h))
qual_alone (negated p) h = ap (λ n. 1 + n) (qual_alone p h)
