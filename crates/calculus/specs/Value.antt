-- The values of domains, and the order of values and of rows.
use Rattle.std.specs.Prelude.{ℤ, pos, negsuc, Bool, false, ◌&&◌, nat_le, List, length}
use Rattle.std.specs.Cmp.Lexicographic.{slice_cmp}
use Rattle.std.specs.Ordering.{nat_cmp, int_cmp, is_le}
use Rattle.std.specs.declared.cmp.Ordering.{Ordering}
use Rattle.std.specs.declared.cmp.Ordering.TheVariants.{Less, Greater}
use Rattle.calculus.specs.declared.value.Domain.{Domain}
use Rattle.calculus.specs.declared.value.Domain.TheVariants.{I1, I2, I4, C}
use Rattle.calculus.specs.declared.value.Value.{Value}
use Rattle.calculus.specs.declared.value.Value.TheVariants.{Int, Text}

-- a number that is neither below low nor above high
abbrev pub is_within : ℤ → ℤ → ℤ → Bool
is_within low n high = is_le (int_cmp low n) && is_le (int_cmp n high)

-- a number that is a value of the domain: one of 8, 16 or 32 bits in two's complement
abbrev pub number_fits : ℤ → Domain → Bool
number_fits n I1 = is_within (negsuc 127) n (pos 127)
number_fits n I2 = is_within (negsuc 32767) n (pos 32767)
number_fits n I4 = is_within (negsuc 2147483647) n (pos 2147483647)
number_fits n (C width) = false

-- a value of the domain: a number of its bits, or a text that is no longer than its width
abbrev pub fits : Value → Domain → Bool
fits (Int n) domain = number_fits n domain
fits (Text bytes) I1 = false
fits (Text bytes) I2 = false
fits (Text bytes) I4 = false
fits (Text bytes) (C width) = nat_le (length bytes) width

-- numbers come before texts; numbers by size; texts by their first bytes that differ, a text that ends there first
abbrev pub value_cmp : Value → Value → Ordering
value_cmp (Int m) (Int n) = int_cmp m n
value_cmp (Int m) (Text t) = Less
value_cmp (Text s) (Int n) = Greater
value_cmp (Text s) (Text t) = slice_cmp nat_cmp s t

-- rows by their first values that differ, a row that ends there first
abbrev pub row_cmp : List Value → List Value → Ordering
row_cmp = slice_cmp value_cmp
