use Rattle.std.proofs.Common.{◌≡◌, ◌++◌, map, take}
use Rattle.view_text.specs.ExpansionOf.{has_value}
use Rattle.view_text.proofs.rows.put_values.Given as goal

abbrev pub invariant-loop-term : goal.invariant-loop-term
invariant-loop-term l = l.made.items ≡ l.fn.made.items ++ map has_value (take l.term-index l.terms)
