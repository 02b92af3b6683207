-- What stands at the front of a text: white space, a comment, or the longest token.
use Rattle.std.specs.Prelude.{ℕ, ◌+◌, ◌-◌, ◌*◌, ◌^◌, Bool, false, List, [], ◌∷◌, take, drop, map, fold, Option, Some, None, option_map, nat_le, ◌||◌, ◌&&◌, ◌==◌, not, if◌then◌else◌}
use Rattle.std.specs.List.{prefix_len}
use Rattle.calculus.specs.Chars.{is_chars}
use Rattle.calculus.specs.Name.{is_digit, is_name}
use Rattle.quel_grammar.specs.Words.{fixed_of, symbol_at}
use Rattle.quel_grammar.specs.declared.token.Fixed.{Fixed}
use Rattle.quel_grammar.specs.declared.token.Token.{Token}
use Rattle.quel_grammar.specs.declared.token.Token.TheVariants as tokens
use Rattle.quel_grammar.specs.declared.token.Piece.{Piece}
use Rattle.quel_grammar.specs.declared.token.Piece.TheVariants as pieces

-- a blank, a tab, a newline or a carriage return
abbrev pub is_white : ℕ → Bool
is_white b = (b == 32) || (b == 9) || (b == 10) || (b == 13)

-- a letter in upper case
abbrev pub is_upper : ℕ → Bool
is_upper b = nat_le 65 b && nat_le b 90

-- a letter of either case, or an underscore
abbrev pub is_letter : ℕ → Bool
is_letter b = is_upper b || (nat_le 97 b && nat_le b 122) || (b == 95)

-- a letter, a digit or an underscore
abbrev pub is_word_byte : ℕ → Bool
is_word_byte b = is_letter b || is_digit b

-- a byte with its letter in lower case
abbrev pub lower : ℕ → ℕ
lower b = if is_upper b then b + 32 else b

-- the text's first byte is this one
abbrev pub starts_with_byte : ℕ → List ℕ → Bool
starts_with_byte c [] = false
starts_with_byte c (b ∷ bs) = b == c

-- how many bytes there are up to and with the next end of a comment, which is a star and a slash
abbrev pub comment_len : List ℕ → Option ℕ
comment_len [] = None
comment_len (b ∷ bs) = if (b == 42) && starts_with_byte 47 bs then Some 2 else option_map (λ n. n + 1) (comment_len bs)

-- how many bytes stand before a closing quote; a byte that a backslash takes with it closes nothing, and the first one here is so taken or not
abbrev pub quoted_len : Bool → List ℕ → Option ℕ
quoted_len taken [] = None
quoted_len taken (b ∷ bs) = if (b == 34) && not taken then Some 0 else option_map (λ n. n + 1) (quoted_len ((b == 92) && not taken) bs)

-- the number that digits stand for
abbrev pub number_of : List ℕ → ℕ
number_of digits = fold (λ n d. 10 * n + (d - 48)) 0 digits

-- the token that a word in lower case is, where it is this reserved word or none: a name has at most 12 bytes
abbrev pub word_token : List ℕ → Option Fixed → Option Token
word_token word (Some fixed) = Some (tokens.Fixed fixed)
word_token word None = if is_name word then Some (tokens.Name word) else None

-- a reserved word or a name at the front, and its length: letters are read in lower case
unfoldable pub word_at : List ℕ → Option (Token × ℕ)
word_at text =
    let len = prefix_len is_word_byte text in
    let word = map lower (take len text) in
    option_map (λ t. (t, len)) (word_token word (fixed_of word))

-- a number at the front, and its length: at most 9,223,372,036,854,775,807
unfoldable pub int_at : List ℕ → Option (Token × ℕ)
int_at text =
    let len = prefix_len is_digit text in
    let number = number_of (take len text) in
    if nat_le number (2 ^ 63 - 1) then Some (tokens.Int number, len) else None

-- the text constant with so many bytes between its quotes, and its length with them: at most 255 bytes from 32 to 126
abbrev pub quoted : List ℕ → Option ℕ → Option (Token × ℕ)
quoted behind (Some len) = if is_chars (take len behind) then Some (tokens.Text (take len behind), len + 2) else None
quoted behind None = None

-- a text constant at the front, and its length
unfoldable pub text_at : List ℕ → Option (Token × ℕ)
text_at text = quoted (drop 1 text) (quoted_len false (drop 1 text))

-- the longest token at the front of a text, and its length
unfoldable pub token_at : List ℕ → Option (Token × ℕ)
token_at [] = None
token_at (b ∷ bs) =
    if is_letter b then word_at (b ∷ bs)
    else if is_digit b then int_at (b ∷ bs)
    else if b == 34 then text_at (b ∷ bs)
    else option_map (λ s. (tokens.Fixed s.0, s.1)) (symbol_at (b ∷ bs))

-- white space, a comment or a token at the front of a text, and its length; a slash and a star open a comment, which must be closed behind them
unfoldable pub piece_at : List ℕ → Option (Piece × ℕ)
piece_at [] = None
piece_at (b ∷ bs) =
    if is_white b then Some (pieces.White, 1)
    else if (b == 47) && starts_with_byte 42 bs then option_map (λ n. (pieces.White, n + 2)) (comment_len (drop 1 bs))
    else option_map (λ t. (pieces.Token t.0, t.1)) (token_at (b ∷ bs))
