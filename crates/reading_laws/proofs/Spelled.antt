-- Each token of a text is spelled as it must be: a name is one, a text constant is one, and a number has 64 bits.
use Rattle.std.proofs.Common.{◌≡◌, ℕ, zero, suc, ◌+◌, ◌-◌, Bool, true, false, cond, List, [], ◌∷◌, drop, take, Option, Some, None, Less, Equal, Greater, is_le, refl, arith}
use Rattle.std.specs.Prelude.{pos, option_map, IfSome, nat_le, nat_lt, ◌&&◌, ◌==◌, ◌^◌}
use Rattle.std.specs.List.{prefix_len}
use Rattle.std.proofs.lemmas.Bool.Decides.{nat_tests}
use Rattle.calculus.specs.Chars.{is_chars}
use Rattle.calculus.specs.Name.{is_digit, is_name}
use Rattle.calculus.specs.Number.{has_64_bits}
use Rattle.quel_grammar.specs.declared.token.Fixed.{Fixed}
use Rattle.quel_grammar.specs.declared.token.Token.{Token}
use Rattle.quel_grammar.specs.declared.token.Token.TheVariants as tokens
use Rattle.quel_grammar.specs.declared.token.Piece.{Piece}
use Rattle.quel_grammar.specs.declared.token.Piece.TheVariants as pieces
use Rattle.quel_grammar.specs.Words.{symbol_at}
use Rattle.quel_grammar.specs.Lexer.{is_white, is_letter, starts_with_byte, comment_len, number_of, word_token, word_at, int_at, quoted, text_at, token_at, piece_at}
use Rattle.quel_grammar.specs.Pieces.{Pieces, with_piece, pieces_behind, pieces_from, tokens_of}
use Rattle.quel_meaning.proofs.Each.{Each}

-- a name is one, a text constant is one, and a number has 64 bits
abbrev pub is_spelled : Token → Bool
is_spelled (tokens.Name w) = is_name w
is_spelled (tokens.Text c) = is_chars c
is_spelled (tokens.Int n) = has_64_bits (pos n)
is_spelled (tokens.Fixed f) = true

-- each of these tokens is
abbrev pub Spelled : List Token → Type 0
Spelled ts = Each (λ t. is_spelled t ≡ true) ts

-- the token at the front is
abbrev Fine : Option (Token × ℕ) → Type 0
Fine o = IfSome o (λ x. is_spelled x.0 ≡ true)

if_fine : (b : Bool) (o p : Option (Token × ℕ)) → (b ≡ true → Fine o) → (b ≡ false → Fine p) → Fine (cond b o p)
if_fine true o p f g = f refl
if_fine false o p f g = g refl

-- ---- words, numbers, texts, symbols

in_order : (less more : Bool) → more ≡ false → is_le (cond less Less (cond more Greater Equal)) ≡ true
in_order true more h = refl
in_order false false h = refl
in_order false true h = absurd (cc h)

not_more : (m n : ℕ) → nat_le n m ≡ true → nat_lt m n ≡ false
not_more m n h = grind (arith, nat_tests, h)

small_number : (n : ℕ) → nat_le n (2 ^ 63 - 1) ≡ true → has_64_bits (pos n) ≡ true
small_number n h = in_order (nat_lt n (2 ^ 63 - 1)) (nat_lt (2 ^ 63 - 1) n) (not_more (2 ^ 63 - 1) n h)

name_fine : (word : List ℕ) (n : ℕ) (b : Bool) → is_name word ≡ b → Fine (option_map (λ t. (t, n)) (cond b (Some (tokens.Name word)) None))
name_fine word n true e = e
name_fine word n false e = tt

word_fine : (word : List ℕ) (n : ℕ) (o : Option Fixed) → Fine (option_map (λ t. (t, n)) (word_token word o))
word_fine word n (Some fixed) = refl
word_fine word n None = name_fine word n (is_name word) refl

word_at_fine : (text : List ℕ) → Fine (word_at text)
unfolding word_at
word_at_fine text = word_fine _ _ _

int_at_fine : (text : List ℕ) → Fine (int_at text)
unfolding int_at
int_at_fine text = if_fine (nat_le (number_of (take (prefix_len is_digit text) text)) (2 ^ 63 - 1)) _ None (λ e. small_number (number_of (take (prefix_len is_digit text) text)) e) (λ e. tt)

quoted_fine : (behind : List ℕ) (o : Option ℕ) → Fine (quoted behind o)
quoted_fine behind None = tt
quoted_fine behind (Some len) = if_fine (is_chars (take len behind)) _ None (λ e. e) (λ e. tt)

text_at_fine : (text : List ℕ) → Fine (text_at text)
unfolding text_at
text_at_fine text = quoted_fine _ _

symbol_fine : (o : Option (Fixed × ℕ)) → Fine (option_map (λ s. (tokens.Fixed s.0, s.1)) o)
symbol_fine None = tt
symbol_fine (Some s) = refl

token_fine : (text : List ℕ) → Fine (token_at text)
unfolding token_at
token_fine [] = tt
token_fine (b ∷ bs) = if_fine (is_letter b) _ _ (λ e. word_at_fine (b ∷ bs))
    (λ e. if_fine (is_digit b) _ _ (λ f. int_at_fine (b ∷ bs))
    (λ f. if_fine (b == 34) _ _ (λ g. text_at_fine (b ∷ bs)) (λ g. symbol_fine (symbol_at (b ∷ bs)))))

-- ---- pieces

-- what stands at the front is white, or a token that is spelled as it must be
abbrev FinePiece : Piece → Type 0
FinePiece pieces.White = Unit {0}
FinePiece (pieces.Token t) = is_spelled t ≡ true

abbrev FineFront : Option (Piece × ℕ) → Type 0
FineFront o = IfSome o (λ x. FinePiece x.0)

if_front : (b : Bool) (o p : Option (Piece × ℕ)) → FineFront o → FineFront p → FineFront (cond b o p)
if_front true o p f g = f
if_front false o p f g = g

comment_front : (o : Option ℕ) → FineFront (option_map (λ n. (pieces.White, n + 2)) o)
comment_front None = tt
comment_front (Some n) = tt

token_front : (o : Option (Token × ℕ)) → Fine o → FineFront (option_map (λ t. (pieces.Token t.0, t.1)) o)
token_front None f = tt
token_front (Some t) f = f

front_fine : (text : List ℕ) → FineFront (piece_at text)
unfolding piece_at
front_fine [] = tt
front_fine (b ∷ bs) = if_front (is_white b) _ _ tt
    (if_front ((b == 47) && starts_with_byte 42 bs) _ _ (comment_front (comment_len (drop 1 bs))) (token_front (token_at (b ∷ bs)) (token_fine (b ∷ bs))))

piece_spelled : (piece : Piece) (at len : ℕ) (later : Pieces) → FinePiece piece → Spelled (tokens_of later) → Spelled (tokens_of (with_piece piece at len later))
piece_spelled pieces.White at len later f h = h
piece_spelled (pieces.Token t) at len later f h = (f, h)

-- the pieces where this piece stands at the front, or none does
abbrev with_front : Option (Piece × ℕ) → ℕ → List ℕ → Pieces
with_front o at bs = elim o [ None ↦ record { placed = []; bad = Some at } | Some p ↦ with_piece p.0 at p.1 (pieces_behind (p.1 - 1) (at + 1) bs) ]

front_spelled : (o : Option (Piece × ℕ)) (at : ℕ) (bs : List ℕ) → FineFront o → ((taken : ℕ) → Spelled (tokens_of (pieces_behind taken (at + 1) bs)))
    → Spelled (tokens_of (with_front o at bs))
front_spelled None at bs f later = tt
front_spelled (Some p) at bs f later = piece_spelled p.0 at p.1 _ f (later (p.1 - 1))

behind_spelled : (taken at : ℕ) (text : List ℕ) → Spelled (tokens_of (pieces_behind taken at text))
unfolding pieces_behind
behind_spelled taken at [] = tt
behind_spelled (suc taken) at (b ∷ bs) = behind_spelled taken (at + 1) bs
behind_spelled zero at (b ∷ bs) = front_spelled (piece_at (b ∷ bs)) at bs (front_fine (b ∷ bs)) (λ taken. behind_spelled taken (at + 1) bs)

-- each token of a text is spelled as it must be
pub text_spelled : (text : List ℕ) (from : ℕ) → Spelled (tokens_of (pieces_from text from))
unfolding pieces_from
text_spelled text from = behind_spelled 0 from (drop from text)
