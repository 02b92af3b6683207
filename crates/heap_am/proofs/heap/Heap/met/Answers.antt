use Rattle.std.proofs.Common.{sym, ◌∙◌, arith}
use Rattle.heap_am.proofs.Meeting.{line_met, line_unmet, line_empty}
use Rattle.heap_am.proofs.heap.Heap.met.Goals as goal

pub returns-then-meets-clause-known : goal.returns-then-meets-clause-known
returns-then-meets-clause-known c m rows e is =
    line_met c.args.self.now.file m rows c.args.probe.now c.args.number c.args.line c.in-Some.row (omega (arith, c.requires.below)) e
    (sym c.in-Some.is ∙ c.in_ok-row.ensures.known m rows e is) (sym c.meets.ensures ∙ c.if-meets.true)

pub returns-else-meets-clause-known : goal.returns-else-meets-clause-known
returns-else-meets-clause-known c m rows e is =
    line_unmet c.args.self.now.file m rows c.args.probe.now c.args.number c.args.line c.in-Some.row (omega (arith, c.requires.below)) e
    (sym c.in-Some.is ∙ c.in_ok-row.ensures.known m rows e is) (sym c.meets.ensures ∙ c.if-meets.false)

pub returns-in-None-clause-known : goal.returns-in-None-clause-known
returns-in-None-clause-known c m rows e is =
    line_empty c.args.self.now.file m rows c.args.probe.now c.args.number c.args.line (omega (arith, c.requires.below)) e
    (sym c.in-None.is ∙ c.in_ok-row.ensures.known m rows e is)
