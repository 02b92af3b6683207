-- The tokens of a text from a place on, with their places.
use Rattle.std.specs.Prelude.{ℕ, zero, suc, ◌+◌, ◌-◌, List, [], ◌∷◌, drop, take, map, slice_get, Option, Some, None}
use Rattle.quel_grammar.specs.declared.token.Token.{Token}
use Rattle.quel_grammar.specs.declared.token.Piece.{Piece}
use Rattle.quel_grammar.specs.declared.token.Piece.TheVariants as pieces
use Rattle.quel_grammar.specs.Lexer.{piece_at}

-- a token, the place of its first byte, and the place behind its last one
pub record Placed : Type 0 where
  pub token : Token
  pub begin : ℕ
  pub end : ℕ

-- the tokens of a text up to its end, or up to the first place that begins neither white space nor a comment nor a token
pub record Pieces : Type 0 where
  pub placed : List Placed
  pub bad : Option ℕ

-- a piece of so many bytes at a place before the pieces behind it
abbrev pub with_piece : Piece → ℕ → ℕ → Pieces → Pieces
with_piece pieces.White at len later = later
with_piece (pieces.Token t) at len later = record { placed = record { token = t; begin = at; end = at + len } ∷ later.placed; bad = later.bad }

-- the pieces of the bytes that stand from a place on; so many of the first ones belong to the piece before
unfoldable pub pieces_behind : ℕ → ℕ → List ℕ → Pieces
pieces_behind taken at [] = record { placed = []; bad = None }
pieces_behind (suc taken) at (b ∷ bs) = pieces_behind taken (at + 1) bs
pieces_behind zero at (b ∷ bs) = elim (piece_at (b ∷ bs)) [ None ↦ record { placed = []; bad = Some at } | Some p ↦ with_piece p.0 at p.1 (pieces_behind (p.1 - 1) (at + 1) bs) ]

-- the pieces of a text from a place on
unfoldable pub pieces_from : List ℕ → ℕ → Pieces
pieces_from text from = pieces_behind 0 from (drop from text)

-- the tokens of the pieces, in order
abbrev pub tokens_of : Pieces → List Token
tokens_of pieces = map (λ p. p.token) pieces.placed

-- where the last of these tokens ends; where there is none, this place
abbrev pub end_behind : ℕ → List Placed → ℕ
end_behind at [] = at
end_behind at (p ∷ ps) = end_behind p.end ps

-- where the bad piece stands; where there is none, this place
abbrev pub bad_or : ℕ → Option ℕ → ℕ
bad_or at None = at
bad_or at (Some bad) = bad

-- where this token begins; where there is none, this place
abbrev pub begin_or : ℕ → Option Placed → ℕ
begin_or at None = at
begin_or at (Some p) = p.begin

-- where the first so many tokens end; of no token the end is never asked for, and is 0
abbrev pub end_of : Pieces → ℕ → ℕ
end_of pieces n = end_behind 0 (take n pieces.placed)

-- where what follows the first so many tokens stands: the next token, else the bad piece, else the end of the last token, which is 0 where there is none
abbrev pub place_behind : Pieces → ℕ → ℕ
place_behind pieces n = begin_or (bad_or (end_behind 0 pieces.placed) pieces.bad) (slice_get pieces.placed n)
