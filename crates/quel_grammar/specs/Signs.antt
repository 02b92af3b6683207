-- What the signs and the comparisons stand for.
use Rattle.std.specs.Prelude.{Bool, true, false, Option, Some, None}
use Rattle.calculus.specs.declared.operator.ArithOp.{ArithOp}
use Rattle.calculus.specs.declared.operator.ArithOp.TheVariants as ops
use Rattle.calculus.specs.declared.operator.CmpOp.{CmpOp}
use Rattle.calculus.specs.declared.operator.CmpOp.TheVariants as comparisons
use Rattle.quel_grammar.specs.declared.token.Fixed.{Fixed}
use Rattle.quel_grammar.specs.declared.token.Fixed.TheVariants as fixed
use Rattle.quel_grammar.specs.declared.token.Token.{Token}
use Rattle.quel_grammar.specs.Reading.{on_fixed}

-- + and -
abbrev pub sum_sign_of : Fixed → Option ArithOp
sum_sign_of fixed.Plus = Some ops.Add
sum_sign_of fixed.Minus = Some ops.Sub
sum_sign_of _ = None

-- the operation of a sum that a token is
abbrev pub sum_sign : Token → Option ArithOp
sum_sign = on_fixed sum_sign_of

-- * and /
abbrev pub product_sign_of : Fixed → Option ArithOp
product_sign_of fixed.Times = Some ops.Mul
product_sign_of fixed.Divide = Some ops.Div
product_sign_of _ = None

-- the operation of a product that a token is
abbrev pub product_sign : Token → Option ArithOp
product_sign = on_fixed product_sign_of

-- - and +, and whether it is -
abbrev pub sign_of : Fixed → Option Bool
sign_of fixed.Minus = Some true
sign_of fixed.Plus = Some false
sign_of _ = None

-- the sign that a token is
abbrev pub sign : Token → Option Bool
sign = on_fixed sign_of

-- = != < <= > >=
abbrev pub comparison_of : Fixed → Option CmpOp
comparison_of fixed.Equal = Some comparisons.Eq
comparison_of fixed.NotEqual = Some comparisons.Ne
comparison_of fixed.Less = Some comparisons.Lt
comparison_of fixed.LessEqual = Some comparisons.Le
comparison_of fixed.Greater = Some comparisons.Gt
comparison_of fixed.GreaterEqual = Some comparisons.Ge
comparison_of _ = None

-- the comparison that a token is
abbrev pub comparison : Token → Option CmpOp
comparison = on_fixed comparison_of
