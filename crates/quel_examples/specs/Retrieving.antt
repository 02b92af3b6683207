-- Tables that are printed.
use Rattle.std.specs.Prelude.{◌≡◌, [], ◌∷◌, codes}
use Rattle.quel_grammar.specs.Next.{Reading}
use Rattle.quel_examples.specs.Small.{lines, empty, printed}

-- what sessions print where texts are read so
pub record Retrieving (reading : Reading) : Type 0 where
  -- a relation is made, gains a row, gets a variable, and is asked
  pub a_first_table : printed reading (empty (codes "ann")) ((codes "ann", lines (codes "create p (a = i2)" ∷ codes "append to p (a = 7)" ∷ codes "range of x is p" ∷ codes "retrieve (x.a) where x.a > 5" ∷ codes "\\g" ∷ [])) ∷ [])
      ≡ lines (codes "done" ∷ codes "done" ∷ codes "|a     |" ∷ codes "|------|" ∷ codes "|     7|" ∷ codes "|------|" ∷ []) ∷ []
  -- an empty script prints nothing
  pub an_empty_script : printed reading (empty (codes "ann")) ((codes "ann", []) ∷ [])
      ≡ [] ∷ []
  -- a query without variables has a row, or none
  pub with_a_row_and_without : printed reading (empty (codes "ann")) ((codes "ann", lines (codes "retrieve (x = 3)" ∷ codes "retrieve (x = 3) where 1 = 2" ∷ codes "\\g" ∷ [])) ∷ [])
      ≡ lines (codes "|x                   |" ∷ codes "|--------------------|" ∷ codes "|                   3|" ∷ codes "|--------------------|" ∷ codes "|x                   |" ∷ codes "|--------------------|" ∷ codes "|--------------------|" ∷ []) ∷ []
  -- quotients are cut toward zero, a sign binds closest, and powers group from the right
  pub values_of_terms : printed reading (empty (codes "ann")) ((codes "ann", lines (codes "retrieve (a = -7 / 2, b = mod(-7, 2), c = -2 ** 2, d = 2 ** 3 ** 2, e = abs(-5))" ∷ codes "\\g" ∷ [])) ∷ [])
      ≡ lines (codes "|a                   |b                   |c                   |d                   |e                   |" ∷ codes "|--------------------|--------------------|--------------------|--------------------|--------------------|" ∷ codes "|                  -3|                  -1|                   4|                 512|                   5|" ∷ codes "|--------------------|--------------------|--------------------|--------------------|--------------------|" ∷ []) ∷ []
  -- a sum outside 64 bits refuses the query
  pub no_sum : printed reading (empty (codes "ann")) ((codes "ann", lines (codes "retrieve (x = 9223372036854775807 + 1)" ∷ codes "\\g" ∷ [])) ∷ [])
      ≡ lines (codes "refused 20 line 1: no value" ∷ []) ∷ []
  -- so does a power to a negative exponent
  pub no_power : printed reading (empty (codes "ann")) ((codes "ann", lines (codes "retrieve (x = 2 ** -1)" ∷ codes "\\g" ∷ [])) ∷ [])
      ≡ lines (codes "refused 20 line 1: no value" ∷ []) ∷ []
  -- a text beside `=` is a pattern
  pub a_text_matches : printed reading (empty (codes "ann")) ((codes "ann", lines (codes "retrieve (x = 1) where \"smithy\" = \"s*h?\"" ∷ codes "\\g" ∷ [])) ∷ [])
      ≡ lines (codes "|x                   |" ∷ codes "|--------------------|" ∷ codes "|                   1|" ∷ codes "|--------------------|" ∷ []) ∷ []
  -- a class has its range and nothing else
  pub a_class_is_left : printed reading (empty (codes "ann")) ((codes "ann", lines (codes "retrieve (x = 1) where \"dx\" = \"[a-c]x\"" ∷ codes "\\g" ∷ [])) ∷ [])
      ≡ lines (codes "|x                   |" ∷ codes "|--------------------|" ∷ codes "|--------------------|" ∷ []) ∷ []
  -- a variable without rows leaves no assignment, whatever the qualification says of another
  pub parts_are_checked_together : printed reading (empty (codes "ann")) ((codes "ann", lines (codes "create n (a = i4) create m (b = i4)" ∷ codes "append to n (a = 0) append to n (a = 2)" ∷ codes "range of e is n range of f is m" ∷ codes "retrieve (e.a) where 10 / e.a = 5" ∷ codes "retrieve (x = 10 / e.a)" ∷ codes "retrieve (e.a) where f.b = 1 or e.a = 2" ∷ codes "\\g" ∷ [])) ∷ [])
      ≡ lines (codes "done" ∷ codes "done" ∷ codes "done" ∷ codes "done" ∷ codes "|a          |" ∷ codes "|-----------|" ∷ codes "|          2|" ∷ codes "|-----------|" ∷ codes "refused 20 line 5: no value" ∷ codes "|a          |" ∷ codes "|-----------|" ∷ codes "|-----------|" ∷ []) ∷ []
  -- rows stand in the order of named columns; a name that is no title is refused
  pub sorted : printed reading (empty (codes "ann")) ((codes "ann", lines (codes "create p (a = i2, t = c3)" ∷ codes "append to p (a = 1, t = \"b\") append to p (a = 2, t = \"a\") append to p (a = 3, t = \"b\")" ∷ codes "range of x is p" ∷ codes "retrieve (x.a, x.t) sort by t:d, a:d" ∷ codes "retrieve (x.t) where x.t = \"?\" and x.a != 2" ∷ codes "retrieve (x.t) where x.t = 1" ∷ codes "retrieve (x.a) sort by z" ∷ codes "\\g" ∷ [])) ∷ [])
      ≡ lines (codes "done" ∷ codes "done" ∷ codes "done" ∷ codes "done" ∷ codes "|a     |t  |" ∷ codes "|------|---|" ∷ codes "|     3|b  |" ∷ codes "|     1|b  |" ∷ codes "|     2|a  |" ∷ codes "|------|---|" ∷ codes "|t  |" ∷ codes "|---|" ∷ codes "|b  |" ∷ codes "|---|" ∷ codes "refused 13 line 6: types differ" ∷ codes "refused 12 line 7: unknown attribute" ∷ []) ∷ []
  -- sums in groups, of which one has no row; and descending rows
  pub in_groups : printed reading (empty (codes "ann")) ((codes "ann", lines (codes "create g (d = i2, s = i2)" ∷ codes "append to g (d = 1, s = 5) append to g (d = 2, s = 50)" ∷ codes "range of e is g" ∷ codes "retrieve (e.d, n = sum(e.s by e.d where e.s > 10))" ∷ codes "retrieve (e.s) sort by s:d" ∷ codes "\\g" ∷ [])) ∷ [])
      ≡ lines (codes "done" ∷ codes "done" ∷ codes "done" ∷ codes "|d     |n                   |" ∷ codes "|------|--------------------|" ∷ codes "|     1|                   0|" ∷ codes "|     2|                  50|" ∷ codes "|------|--------------------|" ∷ codes "|s     |" ∷ codes "|------|" ∷ codes "|    50|" ∷ codes "|     5|" ∷ codes "|------|" ∷ []) ∷ []
  -- folds of none, of different values, and of values that are none
  pub folds : printed reading (empty (codes "ann")) ((codes "ann", lines (codes "create s (k = i1, v = i2)" ∷ codes "append to s (k = 1, v = -3) append to s (k = 1, v = -4)" ∷ codes "append to s (k = 2, v = 5) append to s (k = 3, v = 5)" ∷ codes "range of e is s" ∷ codes "retrieve (a = avg(e.v where e.v < 0), n = countu(e.v), m = max(e.v where e.v > 9), y = any(e.v where e.k = 2))" ∷ codes "\\g" ∷ codes "retrieve (x = sum(e.v / (e.k - 1)))" ∷ codes "\\g" ∷ [])) ∷ [])
      ≡ lines (codes "done" ∷ codes "done" ∷ codes "done" ∷ codes "done" ∷ codes "done" ∷ codes "|a                   |n                   |m                   |y                   |" ∷ codes "|--------------------|--------------------|--------------------|--------------------|" ∷ codes "|                  -3|                   3|                   0|                   1|" ∷ codes "|--------------------|--------------------|--------------------|--------------------|" ∷ codes "refused 20 line 1: no value" ∷ []) ∷ []
