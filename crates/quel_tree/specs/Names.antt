-- Names, text constants and texts as bytes.
use Rattle.std.specs.Prelude.{ℕ, suc, Bool, true, IsTrue, ◌&&◌, ◌==◌, not, nat_le, List}
use Rattle.calculus.specs.Chars.{is_chars, is_printable}
use Rattle.calculus.specs.Name.{is_digit, is_name, is_name_byte}
use Rattle.calculus.specs.Text.{is_blank, is_text}
use Rattle.tree_words.specs.Codec.{Codec}
use Rattle.tree_words.specs.Words.{lawful, short}

-- 1 to 12 bytes
abbrev pub is_name_length : ℕ → Bool
is_name_length n = nat_le 1 n && nat_le n 12

-- where so many bytes follow of a name of this length, a byte of a name may stand, at the front no digit
abbrev pub stands_in_name : ℕ → ℕ → ℕ → Bool
stands_in_name n following b = is_name_byte b && not ((suc following == n) && is_digit b)

-- a name: a length byte and its bytes
unfoldable pub name : Codec (List ℕ)
name = lawful (λ bs. IsTrue (is_name bs)) (short is_name_length stands_in_name)

-- any length that one byte can say
abbrev pub any_length : ℕ → Bool
any_length n = true

-- a byte from 32 to 126
abbrev pub stands_in_chars : ℕ → ℕ → ℕ → Bool
stands_in_chars n following b = is_printable b

-- what stands between the quotes of a text constant: a length byte and its bytes
unfoldable pub chars : Codec (List ℕ)
chars = lawful (λ bs. IsTrue (is_chars bs)) (short any_length stands_in_chars)

-- a byte from 32 to 126, at the end no blank
abbrev pub stands_in_text : ℕ → ℕ → ℕ → Bool
stands_in_text n following b = is_printable b && not ((following == 0) && is_blank b)

-- a text: a length byte and its bytes
unfoldable pub text : Codec (List ℕ)
text = lawful (λ bs. IsTrue (is_text bs)) (short any_length stands_in_text)
