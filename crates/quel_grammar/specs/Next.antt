-- What is read of a text from a place on.
use Rattle.std.specs.Prelude.{◌≡◌, ◌⊎◌, ℕ, ◌+◌, ◌==◌, min, List, [], length, take, filter, slice_get, Some, None}
use Rattle.calculus.specs.declared.statement.Statement.{Statement}
use Rattle.quel_grammar.specs.declared.token.Token.{Token}
use Rattle.quel_grammar.specs.Pieces.{Pieces, pieces_from, tokens_of, bad_or, begin_or, end_of, place_behind}
use Rattle.quel_grammar.specs.Statements.{IsStatement}
use Rattle.quel_grammar.specs.Begins.{Longest}
use Rattle.quel_grammar.specs.Bounds.{first_past}

-- what is read: nothing, where only white space and comments follow; a statement, and the place where its last token ends; or a syntax refusal at this place
pub data Next : Type 0 where
  Nothing : Next
  Read : Statement → ℕ → Next
  Syntax : ℕ → Next

-- what is read of each text from each place on
abbrev pub Reading : Type 0
Reading = List ℕ → ℕ → Next

-- there is neither a token nor a bad piece
pub record IsBlank (pieces : Pieces) : Type 0 where
  pub no_token : pieces.placed ≡ []
  pub no_bad : pieces.bad ≡ None

-- the longest run of tokens that begins a statement passes no bound and is this statement, and its last token ends there
pub record IsRead (pieces : Pieces) (s : Statement) (end : ℕ) : Type 0 where
  pub front : List Token
  pub rest : List Token
  pub longest : Longest (tokens_of pieces) front rest
  pub bounded : first_past front ≡ None
  pub is_one : IsStatement front s
  pub there : end ≡ end_of pieces (length front)

-- the run passes a bound, first by its token of this number; or it passes none and is no statement, and has this number of tokens
abbrev pub IsStopped : List Token → ℕ → Type 0
IsStopped front n = (first_past front ≡ Some n) ⊎ ((first_past front ≡ None) × ((s : Statement) → IsStatement front s → ⊥) × (n ≡ length front))

-- there is a token or a bad piece, and the longest run of tokens that begins a statement stops behind so many of its tokens, where this place is
pub record IsRefused (pieces : Pieces) (at : ℕ) : Type 0 where
  pub front : List Token
  pub rest : List Token
  pub some : IsBlank pieces → ⊥
  pub longest : Longest (tokens_of pieces) front rest
  pub number : ℕ
  pub stopped : IsStopped front number
  pub there : at ≡ place_behind pieces number

-- what may be read of these pieces
abbrev pub IsNextOf : Pieces → Next → Type 0
IsNextOf pieces Nothing = IsBlank pieces
IsNextOf pieces (Read s end) = IsRead pieces s end
IsNextOf pieces (Syntax at) = IsRefused pieces at

-- this may be read of the text from the place on
abbrev pub IsNext : List ℕ → ℕ → Next → Type 0
IsNext text from next = IsNextOf (pieces_from text from) next

-- each answer is what the grammar allows
abbrev pub IsGrammatical : Reading → Type 0
IsGrammatical reading = (text : List ℕ) (from : ℕ) → IsNext text from (reading text from)

-- the place of the first token at or behind a place; where there is none, that of the bad piece, or the place itself
unfoldable pub first_offset : List ℕ → ℕ → ℕ
first_offset text at = begin_or (bad_or at (pieces_from text at).bad) (slice_get (pieces_from text at).placed 0)

-- the line of a place: 1 and as many as there are newlines before it, at most 4,294,967,295
unfoldable pub line_at : List ℕ → ℕ → ℕ
line_at text at = min (1 + length (filter (λ b. b == 10) (take at text))) 4294967295
