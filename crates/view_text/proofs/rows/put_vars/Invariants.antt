use Rattle.std.proofs.Common.{◌≡◌, ◌++◌, take}
use Rattle.view_text.specs.Expansions.{expansions_vars}
use Rattle.view_text.proofs.rows.put_vars.Given as goal

abbrev pub invariant-loop-expansion : goal.invariant-loop-expansion
invariant-loop-expansion l = l.made.items ≡ l.fn.made.items ++ expansions_vars (take l.expansion-index l.expansions)
