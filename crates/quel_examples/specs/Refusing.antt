-- What is refused, and at which line.
use Rattle.std.specs.Prelude.{◌≡◌, [], ◌∷◌, codes}
use Rattle.quel_grammar.specs.Next.{Reading}
use Rattle.quel_examples.specs.Small.{lines, empty, printed}

-- what sessions print where texts are read so
pub record Refusing (reading : Reading) : Type 0 where
  -- a row of too many bytes is refused; a name of too many ends its batch
  pub too_wide_or_too_long : printed reading (empty (codes "ann")) ((codes "ann", lines (codes "create w (a = c255, b = c255, c = c255, d = c235)" ∷ codes "create x (a = c255, b = c255, c = c255, d = c235, e = i1)" ∷ codes "create abcdefghijkl (a = i1)" ∷ codes "create abcdefghijklm (a = i1)" ∷ codes "create y (a = i1)" ∷ codes "\\g" ∷ [])) ∷ [])
      ≡ lines (codes "done" ∷ codes "refused 16 line 2: too wide" ∷ codes "done" ∷ codes "refused 1 line 4: syntax" ∷ []) ∷ []
  -- a syntax refusal drops the rest of its batch
  pub not_a_statement : printed reading (empty (codes "ann")) ((codes "ann", lines (codes "create g (a = i1)" ∷ codes "retreive (x = 1)" ∷ codes "create h (a = i1)" ∷ codes "\\g" ∷ [])) ∷ [])
      ≡ lines (codes "done" ∷ codes "refused 1 line 2: syntax" ∷ []) ∷ []
  -- a buffer is printed and emptied; an unknown command and a missing file are refused
  pub commands : printed reading (empty (codes "ann")) ((codes "ann", lines (codes "retrieve (x = 1)" ∷ codes "\\p" ∷ codes "\\r" ∷ codes "\\zz" ∷ codes "\\i none" ∷ codes "\\g" ∷ [])) ∷ [])
      ≡ lines (codes "retrieve (x = 1)" ∷ codes "refused 2 line 0: monitor command" ∷ codes "refused 32 line 0: no such file" ∷ []) ∷ []
  -- a variable needs something to range over
  pub nothing_of_the_name : printed reading (empty (codes "ann")) ((codes "ann", lines (codes "range of x is p" ∷ codes "\\g" ∷ [])) ∷ [])
      ≡ lines (codes "refused 10 line 1: unknown relation" ∷ []) ∷ []
