-- Comparisons that ask for a match with a pattern, where a side is a text constant.
use Rattle.std.specs.Prelude.{Bool, true, false, Option, Some, None}
use Rattle.calculus.specs.declared.operator.CmpOp.{CmpOp}
use Rattle.calculus.specs.declared.operator.CmpOp.TheVariants as compare

-- whether a match is asked for, and whether it has to be there
abbrev pub asks_for_match : CmpOp → Option Bool
asks_for_match compare.Eq = Some true
asks_for_match compare.Ne = Some false
asks_for_match _ = None
