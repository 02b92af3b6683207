use Rattle.std.proofs.Common.{◌≡◌, ◌++◌, map, take}
use Rattle.disk_model.specs.Walks.{filled_call}
use Rattle.disk_model.proofs.calls.fill_all.Given as goal

abbrev pub invariant-loop-call : goal.invariant-loop-call
invariant-loop-call l = l.entries.items ≡ l.fn.entries.items ++ map (filled_call l.byte) (take l.call-index l.calls)
