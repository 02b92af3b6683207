use Rattle.std.proofs.Common.{sym, subst, []}
use Rattle.std.proofs.lemmas.List.{take_all}
use Rattle.quel_check.specs.Known.{AreTermTrees}
use Rattle.quel_check.proofs.InnerTrees.{no_trees, one_more_tree}
use Rattle.quel_check.proofs.inner_trees.push_trees.Goals as goal

pub loop-term-init : goal.loop-term-init
loop-term-init c = subst (AreTermTrees c.args.vars.now c.args.infos.now []) (sym c.requires) (no_trees c.args.vars.now c.args.infos.now)

pub loop-term-preserved : goal.loop-term-preserved
loop-term-preserved c = one_more_tree _ _ _ _ c.term-item.result _ _ _ c.loop-term-test.true c.term-item.is c.loop-term.invariant c.in_ok-tree.ensures c.in_ok-push.ensures

pub returns : goal.returns
returns c = subst (λ ts. AreTermTrees c.args.vars.now c.args.infos.now ts c.loop-term.trees.items) (take_all c.loop-term.term-index c.args.terms.now c.loop-term-test.false) c.loop-term.invariant
