-- Views, permits, structures and catalogues.
use Rattle.std.specs.Prelude.{◌≡◌, [], ◌∷◌, codes}
use Rattle.quel_grammar.specs.Next.{Reading}
use Rattle.quel_examples.specs.Small.{lines, empty, printed}

-- what sessions print where texts are read so
pub record Viewing (reading : Reading) : Type 0 where
  -- a view shows a set; an aggregate is over a view of one variable alone; what a view names stays
  pub views : printed reading (empty (codes "ann")) ((codes "ann", lines (codes "create emp (name = c6, dept = c6) create item (dept = c6, part = c6)" ∷ codes "append to emp (name = \"ann\", dept = \"toy\")" ∷ codes "append to item (dept = \"toy\", part = \"car\") append to item (dept = \"toy\", part = \"doll\")" ∷ codes "range of e is emp range of i is item" ∷ codes "define view sells (name = e.name) where e.dept = i.dept" ∷ codes "define view depts (dept = i.dept)" ∷ codes "range of v is sells range of w is depts" ∷ codes "retrieve (v.name)" ∷ codes "retrieve (n = count(w.dept))" ∷ codes "retrieve (n = count(v.name))" ∷ codes "destroy emp" ∷ codes "\\g" ∷ [])) ∷ [])
      ≡ lines (codes "done" ∷ codes "done" ∷ codes "done" ∷ codes "done" ∷ codes "done" ∷ codes "done" ∷ codes "done" ∷ codes "|name  |" ∷ codes "|------|" ∷ codes "|ann   |" ∷ codes "|------|" ∷ codes "|n                   |" ∷ codes "|--------------------|" ∷ codes "|                   1|" ∷ codes "|--------------------|" ∷ codes "refused 18 line 10: aggregate" ∷ codes "refused 25 line 11: in use" ∷ []) ∷ []
  -- a view may stand twice, and no row is changed through one
  pub a_view_twice : printed reading (empty (codes "ann")) ((codes "ann", lines (codes "create p (a = i2) create q (b = i2)" ∷ codes "append to p (a = 1) append to p (a = 2)" ∷ codes "append to q (b = 2)" ∷ codes "range of x is p range of y is q" ∷ codes "define view big (n = x.a) where x.a < y.b" ∷ codes "define view pair (l = x.a, r = y.b)" ∷ codes "range of s is pair range of t is pair" ∷ codes "retrieve (s.l, t.l) where s.l < t.l and s.r = t.r" ∷ codes "range of u is big" ∷ codes "retrieve (u.n)" ∷ codes "delete u" ∷ codes "\\g" ∷ [])) ∷ [])
      ≡ lines (codes "done" ∷ codes "done" ∷ codes "done" ∷ codes "done" ∷ codes "done" ∷ codes "done" ∷ codes "done" ∷ codes "|l     |l     |" ∷ codes "|------|------|" ∷ codes "|     1|     2|" ∷ codes "|------|------|" ∷ codes "|n     |" ∷ codes "|------|" ∷ codes "|     1|" ∷ codes "|------|" ∷ codes "refused 26 line 11: view" ∷ []) ∷ []
  -- permits have numbers, and only those that stand can go
  pub numbers_of_permits : printed reading (empty (codes "ann")) ((codes "ann", lines (codes "create p (a = i1)" ∷ codes "range of x is p" ∷ codes "define permit retrieve of x to all" ∷ codes "define permit append of x to bob" ∷ codes "destroy permit p 2" ∷ codes "define permit delete of x to bob where x.a = 1" ∷ codes "destroy permit p 1, 3" ∷ codes "destroy permit p 1, 2" ∷ codes "\\g" ∷ [])) ∷ [])
      ≡ lines (codes "done" ∷ codes "done" ∷ codes "done" ∷ codes "done" ∷ codes "done" ∷ codes "refused 19 line 7: no such number" ∷ codes "done" ∷ []) ∷ []
  -- an index and a structure are seen in the catalogue, and not in an answer
  pub structures : printed reading (empty (codes "ann")) ((codes "ann", lines (codes "create p (a = i2)" ∷ codes "index on p is pi (a)" ∷ codes "range of r is relation" ∷ codes "retrieve (r.relid, r.relspec, r.relatts) where r.relatts = 1" ∷ codes "destroy pi" ∷ codes "modify p to isam" ∷ codes "destroy p" ∷ codes "print p" ∷ codes "\\g" ∷ [])) ∷ [])
      ≡ lines (codes "done" ∷ codes "done" ∷ codes "|relid       |relspec|relatts|" ∷ codes "|------------|-------|-------|" ∷ codes "|p           |heap   |      1|" ∷ codes "|pi          |index  |      1|" ∷ codes "|------------|-------|-------|" ∷ codes "done" ∷ codes "done" ∷ codes "done" ∷ codes "refused 10 line 8: unknown relation" ∷ []) ∷ []
  -- another user reads what one permit covers by itself
  pub permits_are_not_joined : printed reading (empty (codes "ann")) ((codes "ann", lines (codes "create emp (name = c6, sal = i2)" ∷ codes "append to emp (name = \"bo\", sal = 9)" ∷ codes "range of e is emp" ∷ codes "define permit retrieve of e (name) to bob" ∷ codes "define permit retrieve of e (sal) to bob" ∷ codes "\\g" ∷ [])) ∷ (codes "bob", lines (codes "range of e is emp" ∷ codes "retrieve (e.name, e.sal)" ∷ codes "retrieve (e.name)" ∷ codes "delete e" ∷ codes "\\g" ∷ [])) ∷ [])
      ≡ lines (codes "done" ∷ codes "done" ∷ codes "done" ∷ codes "done" ∷ []) ∷ lines (codes "refused 23 line 2: no permit" ∷ codes "|name  |" ∷ codes "|------|" ∷ codes "|bo    |" ∷ codes "|------|" ∷ codes "refused 23 line 4: no permit" ∷ []) ∷ []
  -- another user's own relation hides the administrator's
  pub own_relations : printed reading (empty (codes "ann")) ((codes "ann", lines (codes "create p (a = i2)" ∷ codes "append to p (a = 7)" ∷ codes "\\g" ∷ [])) ∷ (codes "bob", lines (codes "range of x is p" ∷ codes "delete x" ∷ codes "create p (b = i1)" ∷ codes "range of x is p" ∷ codes "retrieve (x.b)" ∷ codes "\\g" ∷ [])) ∷ [])
      ≡ lines (codes "done" ∷ codes "done" ∷ []) ∷ lines (codes "refused 23 line 2: no permit" ∷ codes "done" ∷ codes "|b   |" ∷ codes "|----|" ∷ codes "|----|" ∷ []) ∷ []
