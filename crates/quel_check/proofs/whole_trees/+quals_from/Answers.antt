use Rattle.std.proofs.Common.{◌≡◌, ◌≤◌, ◌+◌, length, sym, subst, refl}
use Rattle.quel_meaning.specs.WrittenParts.{aggregates_in_qual}
use Rattle.quel_check.proofs.TreesFrom.{from_true, from_cmp, from_and, from_or, from_not, same_qual, same_qual_tree, term_of, qual_of}
use Rattle.quel_check.proofs.whole_trees.+quals_from.Goals as goal

pub qual_tree_from-returns-in-True : goal.qual_tree_from-returns-in-True
qual_tree_from-returns-in-True t c = same_qual _ _ _ _ _ _ _ _ c.in-True.is (from_true _ _ _ _ _)

pub qual_tree_from-returns-in_ok-left-in-Cmp : goal.qual_tree_from-returns-in_ok-left-in-Cmp
qual_tree_from-returns-in_ok-left-in-Cmp t c =
    same_qual _ _ _ _ _ _ _ _ c.in-Cmp.is
    (same_qual_tree _ _ _ _ _ _ _ _ c.compared.ensures
    (from_cmp _ _ _ _ _ c.slot_behind-behind.result c.in-Cmp.op _ _ _ _ c.slot_behind-behind.ensures
    (term_of _ _ _ _ _ _ _ _ _ refl c.in_ok-left-in-Cmp.ensures.first c.term_tree_from-left.ensures)
    (term_of _ _ _ _ _ _ _ _ _ refl c.in_ok-left-in-Cmp.ensures.second c.term_tree_from-right.ensures)))

pub qual_tree_from-returns-in_ok-left-in-And : goal.qual_tree_from-returns-in_ok-left-in-And
qual_tree_from-returns-in_ok-left-in-And t c =
    same_qual _ _ _ _ _ _ _ _ c.in-And.is
    (from_and _ _ _ _ _ c.slot_behind_qual-behind.result _ _ _ _
    (subst (λ q. c.args.slot + length (aggregates_in_qual q) ≤ 65535 → c.slot_behind_qual-behind.result ≡ c.args.slot + length (aggregates_in_qual q)) c.get.ensures c.slot_behind_qual-behind.ensures)
    (qual_of _ _ _ _ _ _ _ _ _ (sym c.get-in-And.ensures) c.in_ok-left-in-And.ensures.first c.boxed_qual_from-left.ensures)
    (qual_of _ _ _ _ _ _ _ _ _ (sym c.get-in-And-2.ensures) c.in_ok-left-in-And.ensures.second c.boxed_qual_from-right.ensures))

pub qual_tree_from-returns-in_ok-left-in-Or : goal.qual_tree_from-returns-in_ok-left-in-Or
qual_tree_from-returns-in_ok-left-in-Or t c =
    same_qual _ _ _ _ _ _ _ _ c.in-Or.is
    (from_or _ _ _ _ _ c.slot_behind_qual-behind-in-Or.result _ _ _ _
    (subst (λ q. c.args.slot + length (aggregates_in_qual q) ≤ 65535 → c.slot_behind_qual-behind-in-Or.result ≡ c.args.slot + length (aggregates_in_qual q)) c.get-in-Or.ensures c.slot_behind_qual-behind-in-Or.ensures)
    (qual_of _ _ _ _ _ _ _ _ _ (sym c.get-in-Or-2.ensures) c.in_ok-left-in-Or.ensures.first c.boxed_qual_from-left-in-Or.ensures)
    (qual_of _ _ _ _ _ _ _ _ _ (sym c.get-in-Or-3.ensures) c.in_ok-left-in-Or.ensures.second c.boxed_qual_from-right-in-Or.ensures))

pub qual_tree_from-returns-in_ok-boxed_qual_from-in-Not :
    goal.qual_tree_from-returns-in_ok-boxed_qual_from-in-Not
qual_tree_from-returns-in_ok-boxed_qual_from-in-Not t c =
    same_qual _ _ _ _ _ _ _ _ c.in-Not.is (from_not _ _ _ _ _ _ _ (same_qual _ _ _ _ _ _ _ _ (sym c.get-in-Not.ensures) c.in_ok-boxed_qual_from-in-Not.ensures))
