-- Arithmetic on whole numbers of 64 bits.
use Rattle.std.specs.Prelude.{ℕ, zero, suc, ℤ, pos, negsuc, nat_abs, neg_ℤ, ◌+ℤ◌, ◌-ℤ◌, ◌*ℤ◌, int_div, int_rem, Bool, false, ◌==◌, Option, Some, None, if◌then◌else◌}
use Rattle.calculus.specs.Value.{is_within}
use Rattle.calculus.specs.declared.operator.ArithOp.{ArithOp}
use Rattle.calculus.specs.declared.operator.ArithOp.TheVariants.{Add, Sub, Mul, Div, Pow, Mod}

-- the number has 64 bits in two's complement
abbrev pub has_64_bits : ℤ → Bool
has_64_bits n = is_within (negsuc 9223372036854775807) n (pos 9223372036854775807)

-- the number, where it has 64 bits in two's complement; else none
abbrev pub number : ℤ → Option ℤ
number n = if has_64_bits n then Some n else None

-- the number with the other sign
abbrev pub opposite : ℤ → Option ℤ
opposite x = number (neg_ℤ x)

-- the number without its sign
abbrev pub without_sign : ℤ → Option ℤ
without_sign x = number (pos (nat_abs x))

-- zero
abbrev pub is_zero : ℤ → Bool
is_zero (pos n) = n == 0
is_zero (negsuc n) = false

-- the quotient, cut toward zero; none by zero
abbrev pub quotient : ℤ → ℤ → Option ℤ
quotient x y = if is_zero y then None else number (int_div x y)

-- what the quotient leaves, which has the sign of the left side; none by zero
abbrev pub remainder : ℤ → ℤ → Option ℤ
remainder x y = if is_zero y then None else number (int_rem x y)

-- a number multiplied so many times, beginning with 1
abbrev pub repeated : ℤ → ℕ → ℤ
repeated x zero = pos 1
repeated x (suc n) = x *ℤ repeated x n

-- the power by repeated multiplication; none for a negative exponent
abbrev pub power : ℤ → ℤ → Option ℤ
power x (pos n) = number (repeated x n)
power x (negsuc n) = None

-- what an operation gives for two numbers
abbrev pub operated : ArithOp → ℤ → ℤ → Option ℤ
operated Add x y = number (x +ℤ y)
operated Sub x y = number (x -ℤ y)
operated Mul x y = number (x *ℤ y)
operated Div x y = quotient x y
operated Pow x y = power x y
operated Mod x y = remainder x y
