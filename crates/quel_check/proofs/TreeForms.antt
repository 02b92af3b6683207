-- Trees of terms and qualifications without aggregates, form by form.
use Rattle.std.proofs.Common.{◌≡◌, refl, sym, ap, ◌∙◌, subst, ℕ, ◌+◌, ℤ, Bool, true, false, ◌||◌, ◌&&◌, List, ◌++◌, length, Result, Ok}
use Rattle.std.specs.Prelude.{IfOk}
use Rattle.std.proofs.lemmas.Result.{IfOk-at_ok}
use Rattle.std.proofs.lemmas.List.Folds.{list_all-append}
use denote.Hole.Carrier.{hidden}
use Rattle.calculus.specs.declared.operator.ArithOp.{ArithOp}
use Rattle.calculus.specs.declared.operator.CmpOp.{CmpOp}
use Rattle.calculus.specs.declared.query.QQual.{QQual}
use Rattle.calculus.specs.declared.query.QQual.TheVariants as qqual
use Rattle.calculus.specs.declared.query.QTerm.{QTerm}
use Rattle.calculus.specs.declared.query.QTerm.TheVariants as qterm
use Rattle.calculus.specs.declared.schema.RelInfo.{RelInfo}
use Rattle.calculus.specs.declared.statement.AggTerm.{AggTerm}
use Rattle.calculus.specs.declared.statement.Qual.{Qual}
use Rattle.calculus.specs.declared.statement.Qual.TheBlock.{shape-the_row-Qual-0, hidden-the_row-Qual-0, shape-the_row-Term-1, hidden-the_row-Term-1}
use Rattle.calculus.specs.declared.statement.Qual.TheVariants.{True, Cmp, And, Or, Not}
use Rattle.calculus.specs.declared.statement.Term.{Term}
use Rattle.calculus.specs.declared.statement.Term.TheVariants.{Int, Chars, Attr, Neg, Abs, Arith, Concat, Agg}
use Rattle.calculus.proofs.Forms as forms
use Rattle.quel_check.specs.Known.{Knows, is_among, are_among, IsTermTree, IsQualTree}
use Rattle.quel_check.proofs.AggregateForms as aggregates
use Rattle.quel_check.proofs.VarForms as variables
use Rattle.quel_meaning.specs.Scope.{Scope}
use Rattle.quel_meaning.specs.WrittenParts.{outer_vars, outer_vars_in_qual, aggregates_in, aggregates_in_qual}
use Rattle.quel_meaning.specs.WrittenTree.{Vars, var_place, attr_in, compared, term_tree, qual_tree}

-- ---- parts of what is known

pub either_none : (a b : Bool) → (a || b) ≡ false → (a ≡ false) × (b ≡ false)
either_none true b h = cc h
either_none false b h = (refl, h)

pub both_so : (a b : Bool) → (a && b) ≡ true → (a ≡ true) × (b ≡ true)
both_so true b h = (refl, h)
both_so false b h = cc h

pub parted : (vars xs ys zs : Vars) → zs ≡ xs ++ ys → are_among vars zs ≡ true → (are_among vars xs ≡ true) × (are_among vars ys ≡ true)
parted vars xs ys zs e h = both_so _ _ (sym (list_all-append (is_among vars) xs ys) ∙ ap (are_among vars) (sym e) ∙ h)

none_parted : (a b c : Bool) → c ≡ (a || b) → c ≡ false → (a ≡ false) × (b ≡ false)
none_parted a b c e h = either_none a b (sym e ∙ h)

-- ---- terms

pub of_int : (vars : Vars) (infos : List RelInfo) (number : ℤ) → IsTermTree vars infos (Int number) (qterm.Int number)
unfolding IsTermTree
of_int vars infos number s n k m a = refl

pub of_chars : (vars : Vars) (infos : List RelInfo) (bytes : List ℕ) → IsTermTree vars infos (Chars bytes) (qterm.Chars bytes)
unfolding IsTermTree
of_chars vars infos bytes s n k m a = refl

pub of_attr : (vars : Vars) (infos : List RelInfo) (var attr : List ℕ) (tree : QTerm)
    → ((s : Scope) → Knows s vars infos → is_among vars var ≡ true → tree ≡ qterm.Attr (var_place vars var) (attr_in s var attr)) → IsTermTree vars infos (Attr var attr) tree
unfolding IsTermTree
of_attr vars infos var attr tree h s n k m a = h s k (both_so _ _ m).0

pub of_neg : (vars : Vars) (infos : List RelInfo) (t : Term) (tree : QTerm) → IsTermTree vars infos t tree → IsTermTree vars infos (Neg t) (qterm.Neg tree)
unfolding IsTermTree shape-the_row-Term-1 hidden-the_row-Term-1 hidden aggregates_in
of_neg vars infos t tree h s n k m a = ap qterm.Neg (h s n k m a) ∙ forms.neg_is (term_tree s vars n t)

pub of_abs : (vars : Vars) (infos : List RelInfo) (t : Term) (tree : QTerm) → IsTermTree vars infos t tree → IsTermTree vars infos (Abs t) (qterm.Abs tree)
unfolding IsTermTree shape-the_row-Term-1 hidden-the_row-Term-1 hidden aggregates_in
of_abs vars infos t tree h s n k m a = ap qterm.Abs (h s n k m a) ∙ forms.abs_is (term_tree s vars n t)

pub of_arith : (vars : Vars) (infos : List RelInfo) (op : ArithOp) (t u : Term) (left right : QTerm) → IsTermTree vars infos t left → IsTermTree vars infos u right
    → IsTermTree vars infos (Arith op t u) (qterm.Arith op left right)
unfolding IsTermTree shape-the_row-Term-1 hidden-the_row-Term-1 hidden aggregates_in
of_arith vars infos op t u left right h g s n k m a =
    let ms = parted vars (outer_vars t) (outer_vars u) (outer_vars (Arith op t u)) (variables.vars_arith op t u) m in
    let ns = none_parted _ _ _ (aggregates.any_arith op t u) a in
    (λ i. qterm.Arith op (h s n k ms.0 ns.0 i) (g s (n + length (aggregates_in t)) k ms.1 ns.1 i))
    ∙ forms.operation_is op (term_tree s vars n t) (term_tree s vars (n + length (aggregates_in t)) u)

pub of_concat : (vars : Vars) (infos : List RelInfo) (t u : Term) (left right : QTerm) → IsTermTree vars infos t left → IsTermTree vars infos u right
    → IsTermTree vars infos (Concat t u) (qterm.Concat left right)
unfolding IsTermTree shape-the_row-Term-1 hidden-the_row-Term-1 hidden aggregates_in
of_concat vars infos t u left right h g s n k m a =
    let ms = parted vars (outer_vars t) (outer_vars u) (outer_vars (Concat t u)) (variables.vars_concat t u) m in
    let ns = none_parted _ _ _ (aggregates.any_concat t u) a in
    (λ i. qterm.Concat (h s n k ms.0 ns.0 i) (g s (n + length (aggregates_in t)) k ms.1 ns.1 i))
    ∙ forms.concat_is (term_tree s vars n t) (term_tree s vars (n + length (aggregates_in t)) u)

pub of_agg : (vars : Vars) (infos : List RelInfo) (g : AggTerm) (tree : QTerm) → IsTermTree vars infos (Agg g) tree
unfolding IsTermTree
of_agg vars infos g tree s n k m a = let no : true ≡ false = sym (aggregates.any_agg g) ∙ a in absurd (cc no)

-- ---- qualifications

pub of_true : (vars : Vars) (infos : List RelInfo) → IsQualTree vars infos True qqual.True
unfolding IsQualTree
of_true vars infos s n k m a = refl

pub of_cmp : (vars : Vars) (infos : List RelInfo) (op : CmpOp) (t u : Term) (left right : QTerm) → IsTermTree vars infos t left → IsTermTree vars infos u right
    → IsQualTree vars infos (Cmp op t u) (compared op left right)
unfolding IsTermTree IsQualTree
of_cmp vars infos op t u left right h g s n k m a =
    let ms = parted vars (outer_vars t) (outer_vars u) (outer_vars_in_qual (Cmp op t u)) (variables.qual_cmp op t u) m in
    let ns = none_parted _ _ _ (aggregates.any_cmp op t u) a in
    λ i. compared op (h s n k ms.0 ns.0 i) (g s (n + length (aggregates_in t)) k ms.1 ns.1 i)

pub of_and : (vars : Vars) (infos : List RelInfo) (p q : Qual) (left right : QQual) → IsQualTree vars infos p left → IsQualTree vars infos q right
    → IsQualTree vars infos (And p q) (qqual.And left right)
unfolding IsQualTree shape-the_row-Qual-0 hidden-the_row-Qual-0 hidden aggregates_in_qual
of_and vars infos p q left right h g s n k m a =
    let ms = parted vars (outer_vars_in_qual p) (outer_vars_in_qual q) (outer_vars_in_qual (And p q)) (variables.qual_and p q) m in
    let ns = none_parted _ _ _ (aggregates.any_and p q) a in
    (λ i. qqual.And (h s n k ms.0 ns.0 i) (g s (n + length (aggregates_in_qual p)) k ms.1 ns.1 i))
    ∙ forms.both_is (qual_tree s vars n p) (qual_tree s vars (n + length (aggregates_in_qual p)) q)

pub of_or : (vars : Vars) (infos : List RelInfo) (p q : Qual) (left right : QQual) → IsQualTree vars infos p left → IsQualTree vars infos q right
    → IsQualTree vars infos (Or p q) (qqual.Or left right)
unfolding IsQualTree shape-the_row-Qual-0 hidden-the_row-Qual-0 hidden aggregates_in_qual
of_or vars infos p q left right h g s n k m a =
    let ms = parted vars (outer_vars_in_qual p) (outer_vars_in_qual q) (outer_vars_in_qual (Or p q)) (variables.qual_or p q) m in
    let ns = none_parted _ _ _ (aggregates.any_or p q) a in
    (λ i. qqual.Or (h s n k ms.0 ns.0 i) (g s (n + length (aggregates_in_qual p)) k ms.1 ns.1 i))
    ∙ forms.either_is (qual_tree s vars n p) (qual_tree s vars (n + length (aggregates_in_qual p)) q)

pub of_not : (vars : Vars) (infos : List RelInfo) (p : Qual) (tree : QQual) → IsQualTree vars infos p tree → IsQualTree vars infos (Not p) (qqual.Not tree)
unfolding IsQualTree shape-the_row-Qual-0 hidden-the_row-Qual-0 hidden aggregates_in_qual
of_not vars infos p found h s n k m a = ap qqual.Not (h s n k m a) ∙ forms.negated_is (qual_tree s vars n p)

-- ---- equal terms have equal trees

pub same_term : (vars : Vars) (infos : List RelInfo) (t u : Term) (found : QTerm) → t ≡ u → IsTermTree vars infos u found → IsTermTree vars infos t found
same_term vars infos t u found e h = subst (λ x. IsTermTree vars infos x found) (sym e) h

pub same_qual : (vars : Vars) (infos : List RelInfo) (p q : Qual) (found : QQual) → p ≡ q → IsQualTree vars infos q found → IsQualTree vars infos p found
same_qual vars infos p q found e h = subst (λ x. IsQualTree vars infos x found) (sym e) h

pub same_tree : (vars : Vars) (infos : List RelInfo) (t : Term) (found other : QTerm) → other ≡ found → IsTermTree vars infos t found → IsTermTree vars infos t other
same_tree vars infos t found other e h = subst (IsTermTree vars infos t) (sym e) h

pub same_qual_tree : (vars : Vars) (infos : List RelInfo) (q : Qual) (found other : QQual) → other ≡ found → IsQualTree vars infos q found → IsQualTree vars infos q other
same_qual_tree vars infos q found other e h = subst (IsQualTree vars infos q) (sym e) h

-- ---- trees that calls gave

pub term_of : {E : Type 0} (vars : Vars) (infos : List RelInfo) (t u : Term) (found : QTerm) (r : Result QTerm E) → t ≡ u → r ≡ Ok found → IfOk r (IsTermTree vars infos u)
    → IsTermTree vars infos t found
term_of vars infos t u found r e is h = same_term vars infos t u found e (IfOk-at_ok (IsTermTree vars infos u) is h)

pub qual_of : {E : Type 0} (vars : Vars) (infos : List RelInfo) (p q : Qual) (found : QQual) (r : Result QQual E) → p ≡ q → r ≡ Ok found → IfOk r (IsQualTree vars infos q)
    → IsQualTree vars infos p found
qual_of vars infos p q found r e is h = same_qual vars infos p q found e (IfOk-at_ok (IsQualTree vars infos q) is h)
