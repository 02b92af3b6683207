-- The bytes of a row.
use Rattle.std.specs.Prelude.{ℕ, ℤ, ◌+◌, ◌-◌, nat_lt, Bool, true, false, ◌&&◌, List, [], ◌∷◌, ◌++◌, Option, Some, None, length, take, drop, replicate, if◌then◌else◌}
use Rattle.std.specs.Int.{w64}
use Rattle.std.specs.Option.{option_map}
use Rattle.byteorder.specs.Endian.{little_bytes, little_number, low_bytes, twos_complement}
use Rattle.calculus.specs.declared.value.Domain.{Domain}
use Rattle.calculus.specs.declared.value.Domain.TheVariants.{I1, I2, I4, C}
use Rattle.calculus.specs.declared.value.Kind.TheVariants.{Of}
use Rattle.calculus.specs.declared.value.Value.{Value}
use Rattle.calculus.specs.declared.value.Value.TheVariants.{Int, Text}
use Rattle.calculus.specs.Value.{fits}
use Rattle.calculus.specs.Text.{text_of}
use Rattle.calculus.specs.IsDatabase.{kind_bytes, value_fits}

-- how many bytes a value of the domain takes
abbrev pub width : Domain → ℕ
width domain = kind_bytes (Of domain)

-- how many bytes a row of the domains takes
abbrev pub widths : List Domain → ℕ
widths [] = 0
widths (domain ∷ domains) = width domain + widths domains

-- a number in two's complement in n bytes, the lowest first
unfoldable pub number_bytes : ℕ → ℤ → List ℕ
number_bytes n z = little_bytes n (low_bytes w64 n z)

-- the number that n bytes are in two's complement, the lowest first
unfoldable pub number_of_bytes : ℕ → List ℕ → ℤ
number_of_bytes n bytes = twos_complement n (little_number n bytes)

-- a text, and blanks up to n bytes
abbrev pub filled : List ℕ → ℕ → List ℕ
filled text n = text ++ replicate (n - length text) 32

-- the bytes of a value in n bytes: a number in two's complement, a text filled with blanks
abbrev pub value_bytes : Value → ℕ → List ℕ
value_bytes (Int z) n = number_bytes n z
value_bytes (Text text) n = filled text n

-- the bytes of a row: those of its values, one behind the other
abbrev pub row_bytes : List Value → List Domain → List ℕ
row_bytes [] domains = []
row_bytes (v ∷ vs) [] = []
row_bytes (v ∷ vs) (domain ∷ domains) = value_bytes v (width domain) ++ row_bytes vs domains

-- the row has a value for each domain, and each is a number of the domain's bits or no longer than its width
abbrev pub row_fits : List Value → List Domain → Bool
row_fits [] [] = true
row_fits [] (domain ∷ domains) = false
row_fits (v ∷ vs) [] = false
row_fits (v ∷ vs) (domain ∷ domains) = fits v domain && row_fits vs domains

-- the row has a value for each domain, and each fits it, texts being texts
abbrev pub is_row : List Value → List Domain → Bool
is_row [] [] = true
is_row [] (domain ∷ domains) = false
is_row (v ∷ vs) [] = false
is_row (v ∷ vs) (domain ∷ domains) = value_fits v (Of domain) && is_row vs domains

-- the value of the domain whose bytes these are
abbrev pub value_in : List ℕ → Domain → Option Value
value_in bytes I1 = Some (Int (number_of_bytes 1 bytes))
value_in bytes I2 = Some (Int (number_of_bytes 2 bytes))
value_in bytes I4 = Some (Int (number_of_bytes 4 bytes))
value_in bytes (C width) = option_map Text (text_of bytes)

-- one value in front of the others, where all are there
abbrev pub in_front : Option Value → Option (List Value) → Option (List Value)
in_front None vs = None
in_front (Some v) vs = option_map (λ rest. v ∷ rest) vs

-- the row of the domains whose bytes these are
abbrev pub row_in : List ℕ → List Domain → Option (List Value)
row_in [] [] = Some []
row_in (b ∷ bs) [] = None
row_in bytes (domain ∷ domains) = if nat_lt (length bytes) (width domain) then None else in_front (value_in (take (width domain) bytes) domain) (row_in (drop (width domain) bytes) domains)
