-- Parts of a query that share no variable.
use Rattle.calculus.specs.Answer.{answer, lacks}
use Rattle.calculus_examples.specs.Small.{key, num, attr, relation, database, target}
use Rattle.std.specs.Prelude.{◌≡◌, pos, true, false, List, [], ◌∷◌, codes}
use Rattle.calculus_examples.specs.Words.{I4, Of, Wide, Add, Div, Eq, Ne, Int, Attr, QQual, Cmp, Query, operation, both, either, query, Row, Unrestricted, Db}

-- n (a) holds 0 and 4, m (b) holds these rows
abbrev pub db : List Row → Db
db rows = database (
    relation (codes "m") (attr (codes "b") (Of I4) ∷ []) rows
    ∷ relation (codes "n") (attr (codes "a") (Of I4) ∷ []) ((num (pos 0) ∷ []) ∷ (num (pos 4) ∷ []) ∷ [])
    ∷ [])

-- the row of m
abbrev pub one : List Row
one = (num (pos 1) ∷ []) ∷ []

-- e over n and f over m, with the target 8 / e.a
abbrev pub quotients : QQual → Query
quotients qual = query (key (codes "n") ∷ key (codes "m") ∷ []) (target (codes "x") Wide (operation Div (Int (pos 8)) (Attr 0 0)) ∷ []) qual

-- f.b = 1
abbrev pub is_one : QQual
is_one = Cmp Eq (Attr 1 0) (Int (pos 1))

-- retrieve (e.a, f.b) where e.a = f.b + 3 or f.b = 2
abbrev pub either_way : Query
either_way =
    query (key (codes "n") ∷ key (codes "m") ∷ []) (target (codes "a") (Of I4) (Attr 0 0) ∷ target (codes "b") (Of I4) (Attr 1 0) ∷ [])
    (either (Cmp Eq (Attr 0 0) (operation Add (Attr 1 0) (Int (pos 3)))) (Cmp Eq (Attr 1 0) (Int (pos 2))))

-- what the queries give
pub record Answers : Type 0 where
  pub a_part_without_rows_empties_all : answer (db []) Unrestricted (quotients is_one) ≡ []
  pub and_then_nothing_lacks : lacks (db []) Unrestricted (quotients is_one) ≡ false
  pub with_rows_the_target_lacks : lacks (db one) Unrestricted (quotients is_one) ≡ true
  pub only_qualifying_assignments_count : lacks (db one) Unrestricted (quotients (both is_one (Cmp Ne (Attr 0 0) (Int (pos 0))))) ≡ false
  pub and_give_the_answer : answer (db one) Unrestricted (quotients (both is_one (Cmp Ne (Attr 0 0) (Int (pos 0))))) ≡ (num (pos 2) ∷ []) ∷ []
  pub neither_part_alone : answer (db one) Unrestricted either_way ≡ (num (pos 4) ∷ num (pos 1) ∷ []) ∷ []
