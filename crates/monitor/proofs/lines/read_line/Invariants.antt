use Rattle.std.proofs.Common.{◌≡◌, ◌-◌, true}
use Rattle.monitor.specs.Lines.{HasLine}
use Rattle.monitor.proofs.lines.read_line.Given as goal

abbrev pub invariant-bytes : goal.invariant-bytes
invariant-bytes g l =
    (HasLine l.line.items l.fn.heard l.heard (g.S.Source.left l.fn.source) (g.S.Source.left l.source) (g.S.Source.given l.fn.source) (g.S.Source.given l.source) (g.S.Source.faults l.fn.source) (g.S.Source.faults l.source))
    × (g.S.Source.ended l.fn.source ≡ true → g.S.Source.ended l.source ≡ true)

abbrev pub decreases-bytes : goal.decreases-bytes
decreases-bytes g l = 16777217 - l.heard
