-- What a text's reading rests on.
use Rattle.std.specs.Prelude.{List, [], ◌∷◌, ◌++◌, map}
use Rattle.quel_grammar.specs.Begins.{Begins}
use Rattle.quel_grammar.specs.Pieces.{Placed}

-- these tokens begin a statement, and with the next one they don't
pub record IsUsed (used : List Placed) (next : Placed) : Type 0 where
  pub begins : Begins (map (λ p. p.token) used)
  pub last : Begins (map (λ p. p.token) used ++ next.token ∷ []) → ⊥
