-- The columns of a copied file: the bytes of a value in a form, and the value that bytes are.
use Rattle.std.specs.Prelude.{ℕ, ℤ, pos, neg_ℤ, ◌-◌, ◌*◌, ◌^◌, ◌==◌, nat_le, nat_lt, Bool, true, false, ◌&&◌, if◌then◌else◌, List, [], ◌∷◌, ◌++◌, length, take, drop, replicate, Option, Some, None, option_map, option_and_then}
use Rattle.std.specs.Int.{w64}
use Rattle.std.specs.Fmt.{signed_decimal}
use Rattle.std.specs.Str.Parse.{digits_value}
use Rattle.std.specs.List.{list_all}
use Rattle.byteorder.specs.Endian.{little_bytes, little_number, low_bytes, twos_complement}
use Rattle.calculus.specs.declared.value.Kind.{Kind}
use Rattle.calculus.specs.declared.value.Value.{Value}
use Rattle.calculus.specs.declared.value.Value.TheVariants.{Int, Text}
use Rattle.calculus.specs.declared.request.CopyForm.{CopyForm}
use Rattle.calculus.specs.declared.request.CopyForm.TheVariants.{Bin, Fixed, Until}
use Rattle.calculus.specs.Name.{is_digit}
use Rattle.calculus.specs.Text.{is_blank, trimmed, text_of}
use Rattle.calculus.specs.Value.{is_within}
use Rattle.calculus.specs.Lists.{is_any, has_number}
use Rattle.calculus.specs.Kinds.{is_text_kind}
use Rattle.calculus.specs.Replacement.{is_of_kind}

-- ---- forms

-- a form of a column: 1, 2 or 4 bytes; 1 to 255 bytes; or up to a tab, a newline, a blank, a comma or a colon
abbrev pub is_copy_form : CopyForm → Bool
is_copy_form (Bin n) = has_number (1 ∷ 2 ∷ 4 ∷ []) n
is_copy_form (Fixed n) = nat_le 1 n && nat_le n 255
is_copy_form (Until stop) = has_number (9 ∷ 10 ∷ 32 ∷ 44 ∷ 58 ∷ []) stop

-- ---- numbers

-- a number in two's complement in n bytes, the lowest first
abbrev pub number_bytes : ℕ → ℤ → List ℕ
number_bytes n z = little_bytes n (low_bytes w64 n z)

-- the number that n bytes are in two's complement, the lowest first
abbrev pub number_of_bytes : ℕ → List ℕ → ℤ
number_of_bytes n bytes = twos_complement n (little_number n bytes)

-- the number has n bytes in two's complement
abbrev pub has_bytes : ℕ → ℤ → Bool
has_bytes n z = is_within (neg_ℤ (pos (2 ^ (8 * n - 1)))) z (pos (2 ^ (8 * n - 1) - 1))

-- the number that digits spell, of which there is at least one; none where another byte stands among them
abbrev pub spelled : List ℕ → Option ℕ
spelled digits = if is_any digits && list_all is_digit digits then Some (digits_value 10 digits) else None

-- the number that digits spell, with a minus sign in front or without one
abbrev pub spelled_signed : List ℕ → Option ℤ
spelled_signed [] = None
spelled_signed (b ∷ bs) = elim (b == 45) [ true ↦ option_map (λ n. neg_ℤ (pos n)) (spelled bs) | false ↦ option_map pos (spelled (b ∷ bs)) ]

-- the bytes without the blanks in front
abbrev pub without_front_blanks : List ℕ → List ℕ
without_front_blanks [] = []
without_front_blanks (b ∷ bs) = elim (is_blank b) [ true ↦ without_front_blanks bs | false ↦ b ∷ bs ]

-- ---- from a file

-- the first n bytes, and those behind them; none where there are fewer
abbrev pub cut_behind : ℕ → List ℕ → Option (List ℕ × List ℕ)
cut_behind n bytes = if nat_lt (length bytes) n then None else Some (take n bytes, drop n bytes)

-- the bytes before the first such byte, and those behind it; none where there is none
abbrev pub cut_at : ℕ → List ℕ → Option (List ℕ × List ℕ)
cut_at stop [] = None
cut_at stop (b ∷ bs) = elim (b == stop) [ true ↦ Some ([], bs) | false ↦ option_map (λ cut. (b ∷ cut.0, cut.1)) (cut_at stop bs) ]

-- the bytes of a column at the front of these, and those behind it; none where the bytes end inside it. The end of the bytes ends the last column of a record where that goes up to a byte
abbrev pub piece_of : Bool → CopyForm → List ℕ → Option (List ℕ × List ℕ)
piece_of last (Bin n) bytes = cut_behind n bytes
piece_of last (Fixed n) bytes = cut_behind n bytes
piece_of last (Until stop) bytes = elim (cut_at stop bytes) [ Some cut ↦ Some cut | None ↦ if last then Some (bytes, []) else None ]

-- the value that printed bytes are: a text without the blanks at its end, or a number between blanks; none where a byte of a text is outside 32 to 126, or it is no number
abbrev pub printed_value : Option Kind → List ℕ → Option Value
printed_value kind bytes = elim (is_text_kind kind) [ true ↦ option_map Text (text_of bytes) | false ↦ option_map Int (spelled_signed (trimmed (without_front_blanks bytes))) ]

-- the value that the bytes of a column are
abbrev pub piece_value : CopyForm → Option Kind → List ℕ → Option Value
piece_value (Bin n) kind bytes = Some (Int (number_of_bytes n bytes))
piece_value (Fixed n) kind bytes = printed_value kind bytes
piece_value (Until stop) kind bytes = printed_value kind bytes

-- the value, where it is one of the kind
abbrev pub fitting : Option Kind → Value → Option Value
fitting kind v = if is_of_kind v kind then Some v else None

-- the value of a column at the front of these bytes, and the bytes behind it; none where it is bad: the bytes end inside it, they are no value, or one that doesn't fit
abbrev pub column_value : Bool → CopyForm → Option Kind → List ℕ → Option (Value × List ℕ)
column_value last form kind bytes =
    option_and_then (λ cut. option_map (λ v. (v, cut.1)) (option_and_then (fitting kind) (piece_value form kind cut.0))) (piece_of last form bytes)

-- ---- into a file

-- the bytes of a value as it is printed
abbrev pub value_text : Value → List ℕ
value_text (Int z) = signed_decimal z
value_text (Text bytes) = bytes

-- the bytes in n bytes filled with blanks, a number at the right, a text at the left
abbrev pub filled : ℕ → Value → List ℕ
filled n (Int z) = replicate (n - length (signed_decimal z)) 32 ++ signed_decimal z
filled n (Text bytes) = bytes ++ replicate (n - length bytes) 32

-- the bytes of a value in a form; none where it doesn't fit the form, or holds the byte that ends it
abbrev pub column_bytes : CopyForm → Value → Option (List ℕ)
column_bytes (Bin n) (Int z) = if has_bytes n z then Some (number_bytes n z) else None
column_bytes (Bin n) (Text bytes) = None
column_bytes (Fixed n) v = if nat_lt n (length (value_text v)) then None else Some (filled n v)
column_bytes (Until stop) v = if has_number (value_text v) stop then None else Some (value_text v ++ stop ∷ [])
