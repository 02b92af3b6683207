use Rattle.std.proofs.Common.{◌≡◌, subst, ◌∙◌, ◌+◌, Some, IfSome, arith}
use Rattle.am_traits.specs.Placed.{row_with}
use Rattle.page_chain.specs.Lying.{place_of}
use Rattle.heap_am.specs.Met.{MetBefore}
use Rattle.heap_am.proofs.Meeting.{page_over}
use Rattle.heap_am.proofs.heap.Heap.first_met.Goals as goal

pub returns-in-Some-clause-known : goal.returns-in-Some-clause-known
returns-in-Some-clause-known c m rows e is = (
  c.lines.invariant m rows e is
      ∙ subst (MetBefore rows c.args.probe.now (place_of c.args.number c.lines.line) (place_of c.args.number (c.lines.line + 1))) c.in-Some.is (c.in_ok-row.ensures.known m rows e is),
  subst (λ o. IfSome o (λ r. row_with rows (place_of c.args.number c.lines.line) ≡ Some r)) c.in-Some.is (c.in_ok-row.ensures.stood m rows e is),
)

pub returns-clause-known : goal.returns-clause-known
returns-clause-known c m rows e is =
    c.lines.invariant m rows e is ∙ page_over c.args.self.now.file m rows c.args.probe.now c.args.number c.lines.line c.args.page.now c.requires.below e is (omega arith)
