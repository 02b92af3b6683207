use Rattle.std.proofs.Common.{◌≡◌, true, take}
use Rattle.quel_meaning.specs.Monitor.{Plain, has_no_command, quoting_behind}
use Rattle.monitor.specs.Seen.{seen_quoting}
use Rattle.monitor.proofs.line.piece_length.Given as goal

abbrev pub invariant-loop-i : goal.invariant-loop-i
invariant-loop-i l = record {
  free : has_no_command Plain (take l.i l.line) ≡ true;
  open_is : quoting_behind Plain (take l.i l.line) ≡ seen_quoting l.quoting;
}
