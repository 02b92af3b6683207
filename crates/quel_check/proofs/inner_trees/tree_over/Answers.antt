use Rattle.std.proofs.Common.{ap, sym, subst}
use Rattle.std.proofs.lemmas.Result.{IfOk-at_ok}
use Rattle.calculus.specs.declared.query.QTerm.TheVariants as qterm
use Rattle.calculus.specs.declared.statement.Term.TheVariants as written
use Rattle.quel_check.specs.Known.{AreTermTrees, IsTermFrom, IsTermTree, IsQualTree}
use Rattle.quel_check.proofs.InnerTrees.{of_aggregate}
use Rattle.quel_check.proofs.inner_trees.tree_over.Goals as goal

pub returns : goal.returns
returns c = λ mine over small.
    let lists = IfOk-at_ok _ c.in_ok-arg.ensures.second c.both-2.ensures.first in
    let arg = IfOk-at_ok _ (IfOk-at_ok _ c.in_ok-arg.ensures.first c.both.ensures.first) c.term_tree-arg.ensures in
    let qual = IfOk-at_ok _ (IfOk-at_ok _ c.in_ok-arg.ensures.first c.both.ensures.second) c.qual_tree-qual.ensures in
    let key = IfOk-at_ok _ (IfOk-at_ok _ c.in_ok-arg.ensures.second c.both-2.ensures.second) c.copy.ensures in
    let by = IfOk-at_ok _ (IfOk-at_ok _ lists c.both-lists.ensures.first) c.term_trees-by.ensures in
    let link = IfOk-at_ok _ (IfOk-at_ok _ lists c.both-lists.ensures.second) c.term_trees-link.ensures in
    subst (IsTermFrom c.args.known.vars.now c.args.known.infos.now c.args.known.inner_vars.now c.args.known.inner_infos.now c.args.slot (written.Agg c.args.g.now))
    (sym (ap qterm.Agg c.in_ok-new.ensures))
    (of_aggregate c.args.known.vars.now c.args.known.infos.now c.args.known.inner_vars.now c.args.known.inner_infos.now c.args.vars.now c.args.info.now c.args.slot c.args.g.now
    c.in_ok-arg.key c.in_ok-arg.arg c.in_ok-arg.by c.in_ok-arg.link c.in_ok-arg.qual mine key over small
    (subst (λ infos. IsTermTree c.args.vars.now infos c.args.g.now.arg c.in_ok-arg.arg) c.from_ref-infos.ensures.value arg)
    (subst (λ infos. AreTermTrees c.args.vars.now infos c.args.g.now.by c.in_ok-arg.by) c.from_ref-infos.ensures.value
    (subst (λ ts. AreTermTrees c.args.vars.now c.from_ref-infos.result.now ts c.in_ok-arg.by) c.items.ensures by))
    (subst (λ ts. AreTermTrees c.args.known.vars.now c.args.known.infos.now ts c.in_ok-arg.link) c.items-2.ensures link)
    (subst (λ infos. IsQualTree c.args.vars.now infos c.args.g.now.qual c.in_ok-arg.qual) c.from_ref-infos.ensures.value qual))
