use Rattle.std.proofs.Common.{◌≡◌, ◌++◌, map, take}
use Rattle.view_text.specs.Replaced.{shifted_qual}
use Rattle.view_text.proofs.expansion_conditions.put_shifted.Given as goal

abbrev pub invariant-loop-qual : goal.invariant-loop-qual
invariant-loop-qual l = l.made.items ≡ l.fn.made.items ++ map (shifted_qual l.by) (take l.qual-index l.quals)
