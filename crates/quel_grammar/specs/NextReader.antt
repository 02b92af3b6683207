-- What is read of a text from a place on, computed: the grammar allows this, and nothing else.
use Rattle.std.specs.Prelude.{ℕ, suc, ◌-◌, List, [], ◌∷◌, length, take, Option, Some, None, Ok, Err}
use Rattle.calculus.specs.declared.statement.Statement.{Statement}
use Rattle.quel_grammar.specs.declared.token.Token.{Token}
use Rattle.quel_grammar.specs.Bounds.{first_past}
use Rattle.quel_grammar.specs.Pieces.{Placed, Pieces, pieces_from, tokens_of, end_of, place_behind}
use Rattle.quel_grammar.specs.Reading.{Read as ReadOf}
use Rattle.quel_grammar.specs.StatementReaders.{statement_by}
use Rattle.quel_grammar.specs.Next.{Next, Reading}
use Rattle.quel_grammar.specs.Next.Next.{Nothing, Read, Syntax}

-- how many of the tokens were taken
abbrev pub taken : List Token → ReadOf Statement → ℕ
taken ts (Ok x) = length ts - length x.1
taken ts (Err rest) = length ts - length rest

-- what is read where the first token that passes a bound has this number, if one does
abbrev pub bounded : Pieces → ReadOf Statement → Option ℕ → Next
bounded pieces read (Some number) = Syntax (place_behind pieces number)
bounded pieces (Ok x) None = Read x.0 (end_of pieces (taken (tokens_of pieces) (Ok x)))
bounded pieces (Err rest) None = Syntax (place_behind pieces (taken (tokens_of pieces) (Err rest)))

-- what is read of pieces, of whose tokens this was read
abbrev pub next_by : Pieces → ReadOf Statement → Next
next_by pieces read = bounded pieces read (first_past (take (taken (tokens_of pieces) read) (tokens_of pieces)))

-- what is read of pieces of which there is one
unfoldable pub next_of_tokens : Pieces → Next
next_of_tokens pieces = next_by pieces (statement_by (suc (length (tokens_of pieces))) (tokens_of pieces))

-- what is read of pieces with these tokens and this bad piece
abbrev pub next_of : Pieces → List Placed → Option ℕ → Next
next_of pieces (p ∷ ps) bad = next_of_tokens pieces
next_of pieces [] (Some bad) = next_of_tokens pieces
next_of pieces [] None = Nothing

-- what is read of a text from a place on
unfoldable pub next_at : Reading
next_at text from = let pieces = pieces_from text from in next_of pieces pieces.placed pieces.bad
