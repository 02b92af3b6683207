-- What it is to have cut the first tokens of a text.
use Rattle.std.specs.Prelude.{◌≡◌, ℕ, Bool, is_some, List, [], ◌∷◌, ◌++◌, map, Option, Some, None}
use Rattle.quel_grammar.specs.declared.token.Token.{Token}
use Rattle.quel_grammar.specs.Pieces.{Placed, Pieces}
use Rattle.quel_grammar.specs.Reading.{on_fixed}
use Rattle.quel_grammar.specs.StatementReaders.{verb_of}
use Rattle.quel_lexer.specs.declared.lexed.Span.{Span}
use Rattle.quel_lexer.specs.declared.lexed.Stop.{Stop}
use Rattle.quel_lexer.specs.declared.lexed.Stop.TheVariants as stops
use Rattle.quel_lexer.specs.declared.lexed.Lexed.{Lexed}

-- where a placed token stands
abbrev pub span_of : Placed → Span
span_of p = record { begin = p.begin; end = p.end }

-- the token begins a statement
abbrev pub is_verb : Token → Bool
is_verb t = is_some (on_fixed verb_of t)

-- this follows, where these pieces are left
abbrev pub IsStop : List Placed → Pieces → Stop → Type 0
IsStop later pieces stops.More = Unit {0}
IsStop later pieces stops.End = (later ≡ []) × (pieces.bad ≡ None)
IsStop later pieces (stops.Bad at) = (later ≡ []) × (pieces.bad ≡ Some at)

-- the first tokens of these pieces, with their places, and what follows them
pub record IsFront (pieces : Pieces) (lexed : Lexed) : Type 0 where
  pub front : List Placed
  pub later : List Placed
  pub same : pieces.placed ≡ front ++ later
  pub tokens : lexed.tokens.items ≡ map (λ p. p.token) front
  pub spans : lexed.spans.items ≡ map span_of front
  pub stopped : IsStop later pieces lexed.stop

-- where the first of these begins
abbrev pub first_begin : List Span → Option ℕ
first_begin [] = None
first_begin (s ∷ ss) = Some s.begin

-- the place of what begins no token; where there is none, this place
abbrev pub stop_or : ℕ → Stop → ℕ
stop_or at stops.More = at
stop_or at stops.End = at
stop_or at (stops.Bad bad) = bad
