-- What begins a statement, and the longest run of tokens that does.
use Rattle.std.specs.Prelude.{◌≡◌, List, [], ◌∷◌, ◌++◌}
use Rattle.calculus.specs.declared.statement.Statement.{Statement}
use Rattle.quel_grammar.specs.declared.token.Token.{Token}
use Rattle.quel_grammar.specs.Statements.{IsStatement}

-- more tokens behind these make a statement
pub record Begins (front : List Token) : Type 0 where
  pub more : List Token
  pub statement : Statement
  pub is_one : IsStatement (front ++ more) statement

-- with the next one of these tokens the front begins no statement
abbrev pub IsLast : List Token → List Token → Type 0
IsLast front [] = Unit {0}
IsLast front (t ∷ rest) = Begins (front ++ t ∷ []) → ⊥

-- the front is the longest run of the tokens that begins a statement, and the rest follows it
pub record Longest (tokens front rest : List Token) : Type 0 where
  pub same : tokens ≡ front ++ rest
  pub begins : Begins front
  pub last : IsLast front rest
