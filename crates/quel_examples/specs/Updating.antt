-- Rows that are put, replaced and deleted.
use Rattle.std.specs.Prelude.{◌≡◌, [], ◌∷◌, codes}
use Rattle.quel_grammar.specs.Next.{Reading}
use Rattle.quel_examples.specs.Small.{lines, empty, printed}

-- what sessions print where texts are read so
pub record Updating (reading : Reading) : Type 0 where
  -- a value outside its domain is refused
  pub only_what_fits : printed reading (empty (codes "ann")) ((codes "ann", lines (codes "create q (a = i2)" ∷ codes "append to q (a = 32768)" ∷ codes "append to q (a = -32768)" ∷ codes "range of y is q" ∷ codes "retrieve (y.all)" ∷ codes "\\g" ∷ [])) ∷ [])
      ≡ lines (codes "done" ∷ codes "refused 21 line 2: does not fit" ∷ codes "done" ∷ codes "|a     |" ∷ codes "|------|" ∷ codes "|-32768|" ∷ codes "|------|" ∷ []) ∷ []
  -- a row that is there already is not put again
  pub rows_are_a_set : printed reading (empty (codes "ann")) ((codes "ann", lines (codes "create p (a = i2)" ∷ codes "append to p (a = 7)" ∷ codes "append to p (a = 7)" ∷ codes "range of x is p" ∷ codes "retrieve (x.a) where x.a > 5" ∷ codes "\\g" ∷ [])) ∷ [])
      ≡ lines (codes "done" ∷ codes "done" ∷ codes "done" ∷ codes "|a     |" ∷ codes "|------|" ∷ codes "|     7|" ∷ codes "|------|" ∷ []) ∷ []
  -- new values are taken from the rows before; two for one row refuse the replacement
  pub on_the_state_before : printed reading (empty (codes "ann")) ((codes "ann", lines (codes "create s (a = i2) create t (b = i2)" ∷ codes "append to s (a = 1) append to s (a = 2) append to s (a = 3)" ∷ codes "append to t (b = 5) append to t (b = 6)" ∷ codes "range of e is s range of f is t" ∷ codes "replace e (a = e.a + 1)" ∷ codes "replace e (a = f.b) where e.a = 2" ∷ codes "retrieve (e.a)" ∷ codes "\\g" ∷ [])) ∷ [])
      ≡ lines (codes "done" ∷ codes "done" ∷ codes "done" ∷ codes "done" ∷ codes "done" ∷ codes "done" ∷ codes "done" ∷ codes "done" ∷ codes "refused 22 line 6: two values for one row" ∷ codes "|a     |" ∷ codes "|------|" ∷ codes "|     2|" ∷ codes "|     3|" ∷ codes "|     4|" ∷ codes "|------|" ∷ []) ∷ []
  -- rows that take each other's values are the same set; rows that become equal are one
  pub swapped : printed reading (empty (codes "ann")) ((codes "ann", lines (codes "create p (a = i2, b = i2)" ∷ codes "append to p (a = 1, b = 2) append to p (a = 2, b = 1)" ∷ codes "range of x is p" ∷ codes "replace x (a = x.b, b = x.a)" ∷ codes "retrieve (x.a, x.b)" ∷ codes "replace x (a = 0, b = 0)" ∷ codes "retrieve (x.a)" ∷ codes "delete x where x.a = 0" ∷ codes "\\g" ∷ [])) ∷ [])
      ≡ lines (codes "done" ∷ codes "done" ∷ codes "done" ∷ codes "done" ∷ codes "|a     |b     |" ∷ codes "|------|------|" ∷ codes "|     1|     2|" ∷ codes "|     2|     1|" ∷ codes "|------|------|" ∷ codes "done" ∷ codes "|a     |" ∷ codes "|------|" ∷ codes "|     0|" ∷ codes "|------|" ∷ codes "done" ∷ []) ∷ []
  -- a row that breaks a rule is left out; a rule that a standing row breaks is refused
  pub rules : printed reading (empty (codes "ann")) ((codes "ann", lines (codes "create w (sal = i2)" ∷ codes "append to w (sal = 12) append to w (sal = 20)" ∷ codes "range of e is w" ∷ codes "define integrity on e is e.sal > 10" ∷ codes "replace e (sal = e.sal - 5)" ∷ codes "retrieve (e.sal)" ∷ codes "define integrity on e is e.sal > 12" ∷ codes "\\g" ∷ [])) ∷ [])
      ≡ lines (codes "done" ∷ codes "done" ∷ codes "done" ∷ codes "done" ∷ codes "done" ∷ codes "|sal   |" ∷ codes "|------|" ∷ codes "|    12|" ∷ codes "|    15|" ∷ codes "|------|" ∷ codes "refused 27 line 7: rule does not hold" ∷ []) ∷ []
