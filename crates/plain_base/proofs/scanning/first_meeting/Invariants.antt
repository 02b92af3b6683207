use Rattle.std.proofs.Common.{◌≡◌, drop}
use Rattle.base_trait.specs.Scans.{next_meeting}
use Rattle.plain_base.proofs.scanning.first_meeting.Given as goal

abbrev pub invariant-loop-i : goal.invariant-loop-i
invariant-loop-i l = next_meeting l.probe (drop l.before l.rows) ≡ next_meeting l.probe (drop l.i l.rows)
