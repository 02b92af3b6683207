use Rattle.std.proofs.Common.{sym, refl}
use Rattle.quel_check.proofs.TreeForms.{of_true, of_cmp, of_and, of_or, of_not, same_qual, same_qual_tree, term_of, qual_of}
use Rattle.quel_check.proofs.trees.+qual_trees.Goals as goal

pub qual_tree-returns-in-True : goal.qual_tree-returns-in-True
qual_tree-returns-in-True t c = same_qual _ _ _ _ _ c.in-True.is (of_true _ _)

pub qual_tree-returns-in_ok-left-in-Cmp : goal.qual_tree-returns-in_ok-left-in-Cmp
qual_tree-returns-in_ok-left-in-Cmp t c =
    same_qual _ _ _ _ _ c.in-Cmp.is
    (same_qual_tree _ _ _ _ _ c.compared.ensures
    (of_cmp _ _ c.in-Cmp.op _ _ _ _ (term_of _ _ _ _ _ _ refl c.in_ok-left-in-Cmp.ensures.first c.term_tree-left.ensures)
    (term_of _ _ _ _ _ _ refl c.in_ok-left-in-Cmp.ensures.second c.term_tree-right.ensures)))

pub qual_tree-returns-in_ok-left-in-And : goal.qual_tree-returns-in_ok-left-in-And
qual_tree-returns-in_ok-left-in-And t c =
    same_qual _ _ _ _ _ c.in-And.is
    (of_and _ _ _ _ _ _ (qual_of _ _ _ _ _ _ (sym c.get.ensures) c.in_ok-left-in-And.ensures.first c.boxed_qual-left.ensures)
    (qual_of _ _ _ _ _ _ (sym c.get-in-And.ensures) c.in_ok-left-in-And.ensures.second c.boxed_qual-right.ensures))

pub qual_tree-returns-in_ok-left-in-Or : goal.qual_tree-returns-in_ok-left-in-Or
qual_tree-returns-in_ok-left-in-Or t c =
    same_qual _ _ _ _ _ c.in-Or.is
    (of_or _ _ _ _ _ _ (qual_of _ _ _ _ _ _ (sym c.get-in-Or.ensures) c.in_ok-left-in-Or.ensures.first c.boxed_qual-left-in-Or.ensures)
    (qual_of _ _ _ _ _ _ (sym c.get-in-Or-2.ensures) c.in_ok-left-in-Or.ensures.second c.boxed_qual-right-in-Or.ensures))

pub qual_tree-returns-in_ok-boxed_qual-in-Not : goal.qual_tree-returns-in_ok-boxed_qual-in-Not
qual_tree-returns-in_ok-boxed_qual-in-Not t c =
    same_qual _ _ _ _ _ c.in-Not.is (of_not _ _ _ _ (same_qual _ _ _ _ _ (sym c.get-in-Not.ensures) c.in_ok-boxed_qual-in-Not.ensures))
