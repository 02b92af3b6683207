use Rattle.std.proofs.Common.{◌≡◌, ◌≤◌, ◌+◌, length, sym, subst}
use Rattle.std.proofs.lemmas.Result.{IfOk-weaker}
use Rattle.quel_meaning.specs.WrittenParts.{aggregates_in}
use Rattle.quel_check.proofs.TreesFrom.{from_alone, from_neg, from_abs, from_arith, from_concat, same_term, term_of}
use Rattle.quel_check.proofs.whole_trees.+trees_from.Goals as goal

pub term_tree_from-returns-in_ok-boxed_tree_from-in-Neg :
    goal.term_tree_from-returns-in_ok-boxed_tree_from-in-Neg
term_tree_from-returns-in_ok-boxed_tree_from-in-Neg t c =
    same_term _ _ _ _ _ _ _ _ c.in-Neg.is (from_neg _ _ _ _ _ _ _ (same_term _ _ _ _ _ _ _ _ (sym c.get.ensures) c.in_ok-boxed_tree_from-in-Neg.ensures))

pub term_tree_from-returns-in_ok-boxed_tree_from-in-Abs :
    goal.term_tree_from-returns-in_ok-boxed_tree_from-in-Abs
term_tree_from-returns-in_ok-boxed_tree_from-in-Abs t c =
    same_term _ _ _ _ _ _ _ _ c.in-Abs.is (from_abs _ _ _ _ _ _ _ (same_term _ _ _ _ _ _ _ _ (sym c.get-in-Abs.ensures) c.in_ok-boxed_tree_from-in-Abs.ensures))

pub term_tree_from-returns-in-Int : goal.term_tree_from-returns-in-Int
term_tree_from-returns-in-Int t c = IfOk-weaker c.term_tree.result _ _ (λ found h. from_alone _ _ _ _ _ _ found c.in-Int.is h) c.term_tree.ensures

pub term_tree_from-returns-in_ok-left-in-Arith : goal.term_tree_from-returns-in_ok-left-in-Arith
term_tree_from-returns-in_ok-left-in-Arith t c =
    same_term _ _ _ _ _ _ _ _ c.in-Arith.is
    (from_arith _ _ _ _ _ c.slot_behind-behind.result c.in-Arith.op _ _ _ _
    (subst (λ t. c.args.slot + length (aggregates_in t) ≤ 65535 → c.slot_behind-behind.result ≡ c.args.slot + length (aggregates_in t)) c.get-in-Arith.ensures c.slot_behind-behind.ensures)
    (term_of _ _ _ _ _ _ _ _ _ (sym c.get-in-Arith-2.ensures) c.in_ok-left-in-Arith.ensures.first c.boxed_tree_from-left.ensures)
    (term_of _ _ _ _ _ _ _ _ _ (sym c.get-in-Arith-3.ensures) c.in_ok-left-in-Arith.ensures.second c.boxed_tree_from-right.ensures))

pub term_tree_from-returns-in_ok-left-in-Concat : goal.term_tree_from-returns-in_ok-left-in-Concat
term_tree_from-returns-in_ok-left-in-Concat t c =
    same_term _ _ _ _ _ _ _ _ c.in-Concat.is
    (from_concat _ _ _ _ _ c.slot_behind-behind-in-Concat.result _ _ _ _
    (subst (λ t. c.args.slot + length (aggregates_in t) ≤ 65535 → c.slot_behind-behind-in-Concat.result ≡ c.args.slot + length (aggregates_in t)) c.get-in-Concat.ensures c.slot_behind-behind-in-Concat.ensures)
    (term_of _ _ _ _ _ _ _ _ _ (sym c.get-in-Concat-2.ensures) c.in_ok-left-in-Concat.ensures.first c.boxed_tree_from-left-in-Concat.ensures)
    (term_of _ _ _ _ _ _ _ _ _ (sym c.get-in-Concat-3.ensures) c.in_ok-left-in-Concat.ensures.second c.boxed_tree_from-right-in-Concat.ensures))
