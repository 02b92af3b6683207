use Rattle.std.proofs.Common.{refl, subst}
use Rattle.heap_am.specs.Met.{MetOn}
use Rattle.heap_am.proofs.heap.Heap.next_on_page.Goals as goal

pub returns-in-Some-clause-known : goal.returns-in-Some-clause-known
returns-in-Some-clause-known c m rows e t = (subst (MetOn rows c.args.probe.now c.args.at.now.page c.args.at.now.line) c.in-Some.is (c.in_ok-line.ensures.known m rows e t)).0

pub returns-in-None-clause-known : goal.returns-in-None-clause-known
returns-in-None-clause-known c m rows e t = subst (MetOn rows c.args.probe.now c.args.at.now.page c.args.at.now.line) c.in-None.is (c.in_ok-line.ensures.known m rows e t)

pub returns-in-Some-clause-place : goal.returns-in-Some-clause-place
returns-in-Some-clause-place c m rows e t = (c.in-Some.line, refl, (subst (MetOn rows c.args.probe.now c.args.at.now.page c.args.at.now.line) c.in-Some.is (c.in_ok-line.ensures.known m rows e t)).1)
