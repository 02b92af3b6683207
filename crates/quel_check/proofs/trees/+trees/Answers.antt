use Rattle.std.proofs.Common.{sym, ap}
use Rattle.calculus.specs.declared.query.QTerm.TheVariants as qterm
use Rattle.quel_check.proofs.TreeForms.{of_int, of_chars, of_attr, of_neg, of_abs, of_arith, of_concat, of_agg, same_term, same_tree, term_of}
use Rattle.quel_check.proofs.trees.+trees.Goals as goal

pub term_tree-returns-in-Int : goal.term_tree-returns-in-Int
term_tree-returns-in-Int t c = same_term _ _ _ _ _ c.in-Int.is (same_tree _ _ _ _ _ c.int_tree.ensures (of_int _ _ c.in-Int.number))

pub term_tree-returns-in_ok-copy-in-Chars : goal.term_tree-returns-in_ok-copy-in-Chars
term_tree-returns-in_ok-copy-in-Chars t c =
    same_term _ _ _ _ _ c.in-Chars.is (same_tree _ _ _ _ _ (ap qterm.Chars c.in_ok-copy-in-Chars.ensures) (of_chars _ _ c.in-Chars.chars))

pub term_tree-returns-in-Attr : goal.term_tree-returns-in-Attr
term_tree-returns-in-Attr t c = same_term _ _ _ _ _ c.in-Attr.is (of_attr _ _ c.in-Attr.var c.in-Attr.attr _ c.dotted_tree.ensures)

pub term_tree-returns-in_ok-boxed_tree-in-Neg : goal.term_tree-returns-in_ok-boxed_tree-in-Neg
term_tree-returns-in_ok-boxed_tree-in-Neg t c =
    same_term _ _ _ _ _ c.in-Neg.is (of_neg _ _ _ _ (same_term _ _ _ _ _ (sym c.get.ensures) c.in_ok-boxed_tree-in-Neg.ensures))

pub term_tree-returns-in_ok-boxed_tree-in-Abs : goal.term_tree-returns-in_ok-boxed_tree-in-Abs
term_tree-returns-in_ok-boxed_tree-in-Abs t c =
    same_term _ _ _ _ _ c.in-Abs.is (of_abs _ _ _ _ (same_term _ _ _ _ _ (sym c.get-in-Abs.ensures) c.in_ok-boxed_tree-in-Abs.ensures))

pub term_tree-returns-in_ok-left-in-Arith : goal.term_tree-returns-in_ok-left-in-Arith
term_tree-returns-in_ok-left-in-Arith t c =
    same_term _ _ _ _ _ c.in-Arith.is
    (of_arith _ _ c.in-Arith.op _ _ _ _ (term_of _ _ _ _ _ _ (sym c.get-in-Arith.ensures) c.in_ok-left-in-Arith.ensures.first c.boxed_tree-left.ensures)
    (term_of _ _ _ _ _ _ (sym c.get-in-Arith-2.ensures) c.in_ok-left-in-Arith.ensures.second c.boxed_tree-right.ensures))

pub term_tree-returns-in_ok-left-in-Concat : goal.term_tree-returns-in_ok-left-in-Concat
term_tree-returns-in_ok-left-in-Concat t c =
    same_term _ _ _ _ _ c.in-Concat.is
    (of_concat _ _ _ _ _ _ (term_of _ _ _ _ _ _ (sym c.get-in-Concat.ensures) c.in_ok-left-in-Concat.ensures.first c.boxed_tree-left-in-Concat.ensures)
    (term_of _ _ _ _ _ _ (sym c.get-in-Concat-2.ensures) c.in_ok-left-in-Concat.ensures.second c.boxed_tree-right-in-Concat.ensures))

pub term_tree-returns-in-Agg : goal.term_tree-returns-in-Agg
term_tree-returns-in-Agg t c = same_term _ _ _ _ _ c.in-Agg.is (of_agg _ _ _ _)
