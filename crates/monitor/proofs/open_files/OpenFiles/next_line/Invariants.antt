use Rattle.std.proofs.Common.{◌≡◌, length}
use Rattle.std.specs.Prelude.{reverse}
use Rattle.monitor.specs.Files.{next_line}
use Rattle.monitor.proofs.open_files.OpenFiles.next_line.Given as goal

abbrev pub invariant-loop-file : goal.invariant-loop-file
invariant-loop-file l = next_line (reverse l.self-inside.files.items) ≡ next_line l.fn.self

abbrev pub decreases-loop-file : goal.decreases-loop-file
decreases-loop-file l = length l.self-inside.files.items
