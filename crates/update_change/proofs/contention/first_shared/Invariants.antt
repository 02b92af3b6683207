use Rattle.std.proofs.Common.{ℕ, ◌+◌, ◌<◌, false}
use Rattle.update_change.specs.Replacements.{Shares}
use Rattle.update_change.proofs.contention.first_shared.Given as goal

abbrev pub invariant-loop-next : goal.invariant-loop-next
invariant-loop-next l = (before : ℕ) → before + 1 < l.next → Shares l.all before false
