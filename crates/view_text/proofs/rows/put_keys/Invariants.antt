use Rattle.std.proofs.Common.{◌≡◌, ◌++◌, take}
use Rattle.view_text.proofs.rows.put_keys.Given as goal

abbrev pub invariant-loop-key : goal.invariant-loop-key
invariant-loop-key l = l.made.items ≡ l.fn.made.items ++ take l.key-index l.keys
