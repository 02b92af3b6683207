-- Trees of terms and qualifications in which aggregates may stand, form by form.
use Rattle.std.proofs.Common.{◌≡◌, ◌⊎◌, refl, sym, ap, ◌∙◌, subst, ℕ, ◌+◌, ◌≤◌, arith, ℤ, true, false, List, [], ◌++◌, length, Result, Ok}
use Rattle.std.specs.Prelude.{IfOk}
use Rattle.std.specs.List.{list_all}
use Rattle.std.proofs.lemmas.Result.{IfOk-at_ok}
use Rattle.std.proofs.lemmas.List.Folds.{list_all-append}
use denote.Hole.Carrier.{hidden}
use Rattle.calculus.specs.declared.operator.ArithOp.{ArithOp}
use Rattle.calculus.specs.declared.operator.CmpOp.{CmpOp}
use Rattle.calculus.specs.declared.query.QQual.{QQual}
use Rattle.calculus.specs.declared.query.QQual.TheVariants as qqual
use Rattle.calculus.specs.declared.query.QTerm.{QTerm}
use Rattle.calculus.specs.declared.query.QTerm.TheVariants as qterm
use Rattle.calculus.specs.declared.schema.RelInfo.{RelInfo}
use Rattle.calculus.specs.declared.statement.AggTerm.{AggTerm}
use Rattle.calculus.specs.declared.statement.Qual.{Qual}
use Rattle.calculus.specs.declared.statement.Qual.TheBlock.{shape-the_row-Qual-0, hidden-the_row-Qual-0, shape-the_row-Term-1, hidden-the_row-Term-1}
use Rattle.calculus.specs.declared.statement.Qual.TheVariants.{True, Cmp, And, Or, Not}
use Rattle.calculus.specs.declared.statement.Term.{Term}
use Rattle.calculus.specs.declared.statement.Term.TheVariants.{Int, Chars, Attr, Neg, Abs, Arith, Concat}
use Rattle.calculus.specs.Lists.{is_any}
use Rattle.calculus.proofs.Forms as forms
use Rattle.quel_check.specs.Known.{is_over, IsTermTree, IsTermFrom, IsQualFrom}
use Rattle.quel_check.proofs.InnerForms as inside
use Rattle.quel_check.proofs.TreeForms.{both_so, parted}
use Rattle.quel_check.proofs.VarForms as variables
use Rattle.quel_meaning.specs.WrittenParts.{outer_vars, outer_vars_in_qual, aggregates_in, aggregates_in_qual}
use Rattle.quel_meaning.specs.WrittenTree.{Vars, compared, term_tree, qual_tree}

-- ---- two parts, one behind the other

-- what is known of two parts whose aggregates stand one behind the other
record Parts (inner : Vars) (n m : ℕ) (xs ys : List AggTerm) : Type 0 where
  left : list_all (is_over inner) xs ≡ true
  right : list_all (is_over inner) ys ≡ true
  left_few : n + length xs ≤ 65535
  behind : m ≡ n + length xs
  right_few : m + length ys ≤ 65535

parts : (inner : Vars) (n m : ℕ) (xs ys zs : List AggTerm) → zs ≡ xs ++ ys → (n + length xs ≤ 65535 → m ≡ n + length xs) → list_all (is_over inner) zs ≡ true
    → n + length zs ≤ 65535 → Parts inner n m xs ys
parts inner n m xs ys zs e f over few =
    let all : length zs ≡ length xs + length ys = ap length e ∙ inside.length_joined xs ys in
    let first : n + length xs ≤ 65535 = omega (arith, all, few) in
    let next : m ≡ n + length xs = f first in
    let two = both_so _ _ (sym (list_all-append (is_over inner) xs ys) ∙ ap (list_all (is_over inner)) (sym e) ∙ over) in
    record { left = two.0; right = two.1; left_few = first; behind = next; right_few = omega (arith, all, few, next) }

-- ---- terms

none : {X : Type 0} (xs : List X) → xs ≡ [] → is_any xs ≡ false
none xs e = ap is_any e

-- a term without parts
pub from_alone : (vars : Vars) (infos : List RelInfo) (inner : Vars) (inner_infos : List RelInfo) (n : ℕ) (t : Term) (tree : QTerm)
    → ((k : ℤ) × (t ≡ Int k)) ⊎ (((bytes : List ℕ) × (t ≡ Chars bytes)) ⊎ ((var : List ℕ) × (attr : List ℕ) × (t ≡ Attr var attr)))
    → IsTermTree vars infos t tree → IsTermFrom vars infos inner inner_infos n t tree
unfolding IsTermTree IsTermFrom
from_alone vars infos inner inner_infos n t tree e h s k ki m over few = h s n k m (none (aggregates_in t) (inside.alone t e))

pub from_neg : (vars : Vars) (infos : List RelInfo) (inner : Vars) (inner_infos : List RelInfo) (n : ℕ) (t : Term) (tree : QTerm)
    → IsTermFrom vars infos inner inner_infos n t tree → IsTermFrom vars infos inner inner_infos n (Neg t) (qterm.Neg tree)
unfolding IsTermFrom shape-the_row-Term-1 hidden-the_row-Term-1 hidden aggregates_in
from_neg vars infos inner inner_infos n t tree h s k ki m over few = ap qterm.Neg (h s k ki m over few) ∙ forms.neg_is (term_tree s vars n t)

pub from_abs : (vars : Vars) (infos : List RelInfo) (inner : Vars) (inner_infos : List RelInfo) (n : ℕ) (t : Term) (tree : QTerm)
    → IsTermFrom vars infos inner inner_infos n t tree → IsTermFrom vars infos inner inner_infos n (Abs t) (qterm.Abs tree)
unfolding IsTermFrom shape-the_row-Term-1 hidden-the_row-Term-1 hidden aggregates_in
from_abs vars infos inner inner_infos n t tree h s k ki m over few = ap qterm.Abs (h s k ki m over few) ∙ forms.abs_is (term_tree s vars n t)

pub from_arith : (vars : Vars) (infos : List RelInfo) (inner : Vars) (inner_infos : List RelInfo) (n m : ℕ) (op : ArithOp) (t u : Term) (left right : QTerm)
    → (n + length (aggregates_in t) ≤ 65535 → m ≡ n + length (aggregates_in t)) → IsTermFrom vars infos inner inner_infos n t left → IsTermFrom vars infos inner inner_infos m u right
    → IsTermFrom vars infos inner inner_infos n (Arith op t u) (qterm.Arith op left right)
unfolding IsTermFrom shape-the_row-Term-1 hidden-the_row-Term-1 hidden
from_arith vars infos inner inner_infos n m op t u left right next h g s k ki among over few =
    let ms = parted vars (outer_vars t) (outer_vars u) (outer_vars (Arith op t u)) (variables.vars_arith op t u) among in
    let ps = parts inner n m (aggregates_in t) (aggregates_in u) (aggregates_in (Arith op t u)) (inside.in_arith op t u) next over few in
    (λ i. qterm.Arith op (h s k ki ms.0 ps.left ps.left_few i) ((g s k ki ms.1 ps.right ps.right_few ∙ ap (λ j. term_tree s vars j u) ps.behind) i))
    ∙ forms.operation_is op (term_tree s vars n t) (term_tree s vars (n + length (aggregates_in t)) u)

pub from_concat : (vars : Vars) (infos : List RelInfo) (inner : Vars) (inner_infos : List RelInfo) (n m : ℕ) (t u : Term) (left right : QTerm)
    → (n + length (aggregates_in t) ≤ 65535 → m ≡ n + length (aggregates_in t)) → IsTermFrom vars infos inner inner_infos n t left → IsTermFrom vars infos inner inner_infos m u right
    → IsTermFrom vars infos inner inner_infos n (Concat t u) (qterm.Concat left right)
unfolding IsTermFrom shape-the_row-Term-1 hidden-the_row-Term-1 hidden
from_concat vars infos inner inner_infos n m t u left right next h g s k ki among over few =
    let ms = parted vars (outer_vars t) (outer_vars u) (outer_vars (Concat t u)) (variables.vars_concat t u) among in
    let ps = parts inner n m (aggregates_in t) (aggregates_in u) (aggregates_in (Concat t u)) (inside.in_concat t u) next over few in
    (λ i. qterm.Concat (h s k ki ms.0 ps.left ps.left_few i) ((g s k ki ms.1 ps.right ps.right_few ∙ ap (λ j. term_tree s vars j u) ps.behind) i))
    ∙ forms.concat_is (term_tree s vars n t) (term_tree s vars (n + length (aggregates_in t)) u)

-- ---- qualifications

pub from_true : (vars : Vars) (infos : List RelInfo) (inner : Vars) (inner_infos : List RelInfo) (n : ℕ) → IsQualFrom vars infos inner inner_infos n True qqual.True
unfolding IsQualFrom
from_true vars infos inner inner_infos n s k ki m over few = refl

pub from_cmp : (vars : Vars) (infos : List RelInfo) (inner : Vars) (inner_infos : List RelInfo) (n m : ℕ) (op : CmpOp) (t u : Term) (left right : QTerm)
    → (n + length (aggregates_in t) ≤ 65535 → m ≡ n + length (aggregates_in t)) → IsTermFrom vars infos inner inner_infos n t left → IsTermFrom vars infos inner inner_infos m u right
    → IsQualFrom vars infos inner inner_infos n (Cmp op t u) (compared op left right)
unfolding IsTermFrom IsQualFrom
from_cmp vars infos inner inner_infos n m op t u left right next h g s k ki among over few =
    let ms = parted vars (outer_vars t) (outer_vars u) (outer_vars_in_qual (Cmp op t u)) (variables.qual_cmp op t u) among in
    let ps = parts inner n m (aggregates_in t) (aggregates_in u) (aggregates_in_qual (Cmp op t u)) (inside.in_cmp op t u) next over few in
    λ i. compared op (h s k ki ms.0 ps.left ps.left_few i) ((g s k ki ms.1 ps.right ps.right_few ∙ ap (λ j. term_tree s vars j u) ps.behind) i)

pub from_and : (vars : Vars) (infos : List RelInfo) (inner : Vars) (inner_infos : List RelInfo) (n m : ℕ) (p q : Qual) (left right : QQual)
    → (n + length (aggregates_in_qual p) ≤ 65535 → m ≡ n + length (aggregates_in_qual p)) → IsQualFrom vars infos inner inner_infos n p left
    → IsQualFrom vars infos inner inner_infos m q right → IsQualFrom vars infos inner inner_infos n (And p q) (qqual.And left right)
unfolding IsQualFrom shape-the_row-Qual-0 hidden-the_row-Qual-0 hidden
from_and vars infos inner inner_infos n m p q left right next h g s k ki among over few =
    let ms = parted vars (outer_vars_in_qual p) (outer_vars_in_qual q) (outer_vars_in_qual (And p q)) (variables.qual_and p q) among in
    let ps = parts inner n m (aggregates_in_qual p) (aggregates_in_qual q) (aggregates_in_qual (And p q)) (inside.in_and p q) next over few in
    (λ i. qqual.And (h s k ki ms.0 ps.left ps.left_few i) ((g s k ki ms.1 ps.right ps.right_few ∙ ap (λ j. qual_tree s vars j q) ps.behind) i))
    ∙ forms.both_is (qual_tree s vars n p) (qual_tree s vars (n + length (aggregates_in_qual p)) q)

pub from_or : (vars : Vars) (infos : List RelInfo) (inner : Vars) (inner_infos : List RelInfo) (n m : ℕ) (p q : Qual) (left right : QQual)
    → (n + length (aggregates_in_qual p) ≤ 65535 → m ≡ n + length (aggregates_in_qual p)) → IsQualFrom vars infos inner inner_infos n p left
    → IsQualFrom vars infos inner inner_infos m q right → IsQualFrom vars infos inner inner_infos n (Or p q) (qqual.Or left right)
unfolding IsQualFrom shape-the_row-Qual-0 hidden-the_row-Qual-0 hidden
from_or vars infos inner inner_infos n m p q left right next h g s k ki among over few =
    let ms = parted vars (outer_vars_in_qual p) (outer_vars_in_qual q) (outer_vars_in_qual (Or p q)) (variables.qual_or p q) among in
    let ps = parts inner n m (aggregates_in_qual p) (aggregates_in_qual q) (aggregates_in_qual (Or p q)) (inside.in_or p q) next over few in
    (λ i. qqual.Or (h s k ki ms.0 ps.left ps.left_few i) ((g s k ki ms.1 ps.right ps.right_few ∙ ap (λ j. qual_tree s vars j q) ps.behind) i))
    ∙ forms.either_is (qual_tree s vars n p) (qual_tree s vars (n + length (aggregates_in_qual p)) q)

pub from_not : (vars : Vars) (infos : List RelInfo) (inner : Vars) (inner_infos : List RelInfo) (n : ℕ) (p : Qual) (tree : QQual)
    → IsQualFrom vars infos inner inner_infos n p tree → IsQualFrom vars infos inner inner_infos n (Not p) (qqual.Not tree)
unfolding IsQualFrom shape-the_row-Qual-0 hidden-the_row-Qual-0 hidden aggregates_in_qual
from_not vars infos inner inner_infos n p found h s k ki m over few = ap qqual.Not (h s k ki m over few) ∙ forms.negated_is (qual_tree s vars n p)

-- ---- equal terms have equal trees

pub same_term : (vars : Vars) (infos : List RelInfo) (inner : Vars) (inner_infos : List RelInfo) (n : ℕ) (t u : Term) (found : QTerm) → t ≡ u
    → IsTermFrom vars infos inner inner_infos n u found → IsTermFrom vars infos inner inner_infos n t found
same_term vars infos inner inner_infos n t u found e h = subst (λ x. IsTermFrom vars infos inner inner_infos n x found) (sym e) h

pub same_qual : (vars : Vars) (infos : List RelInfo) (inner : Vars) (inner_infos : List RelInfo) (n : ℕ) (p q : Qual) (found : QQual) → p ≡ q
    → IsQualFrom vars infos inner inner_infos n q found → IsQualFrom vars infos inner inner_infos n p found
same_qual vars infos inner inner_infos n p q found e h = subst (λ x. IsQualFrom vars infos inner inner_infos n x found) (sym e) h

pub same_qual_tree : (vars : Vars) (infos : List RelInfo) (inner : Vars) (inner_infos : List RelInfo) (n : ℕ) (q : Qual) (found other : QQual) → other ≡ found
    → IsQualFrom vars infos inner inner_infos n q found → IsQualFrom vars infos inner inner_infos n q other
same_qual_tree vars infos inner inner_infos n q found other e h = subst (IsQualFrom vars infos inner inner_infos n q) (sym e) h

-- ---- trees that calls gave

pub term_of : {E : Type 0} (vars : Vars) (infos : List RelInfo) (inner : Vars) (inner_infos : List RelInfo) (n : ℕ) (t u : Term) (found : QTerm) (r : Result QTerm E) → t ≡ u
    → r ≡ Ok found → IfOk r (IsTermFrom vars infos inner inner_infos n u) → IsTermFrom vars infos inner inner_infos n t found
term_of vars infos inner inner_infos n t u found r e is h = same_term vars infos inner inner_infos n t u found e (IfOk-at_ok (IsTermFrom vars infos inner inner_infos n u) is h)

pub qual_of : {E : Type 0} (vars : Vars) (infos : List RelInfo) (inner : Vars) (inner_infos : List RelInfo) (n : ℕ) (p q : Qual) (found : QQual) (r : Result QQual E) → p ≡ q
    → r ≡ Ok found → IfOk r (IsQualFrom vars infos inner inner_infos n q) → IsQualFrom vars infos inner inner_infos n p found
qual_of vars infos inner inner_infos n p q found r e is h = same_qual vars infos inner inner_infos n p q found e (IfOk-at_ok (IsQualFrom vars infos inner inner_infos n q) is h)
