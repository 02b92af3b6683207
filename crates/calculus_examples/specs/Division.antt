-- A quotient in a qualification and in a target, and a variable over no rows.
use Rattle.calculus.specs.Answer.{answer, lacks}
use Rattle.calculus_examples.specs.Small.{key, num, attr, relation, database, target}
use Rattle.std.specs.Prelude.{◌≡◌, pos, true, [], ◌∷◌, codes}
use Rattle.calculus_examples.specs.Words.{I4, Of, Wide, Div, Eq, QTerm, Int, Attr, True, Cmp, Query, operation, either, query, Unrestricted, Db}

-- n (a) holds 0 and 2, m (b) holds nothing
abbrev pub db : Db
db = database (relation (codes "m") (attr (codes "b") (Of I4) ∷ []) [] ∷ relation (codes "n") (attr (codes "a") (Of I4) ∷ []) ((num (pos 0) ∷ []) ∷ (num (pos 2) ∷ []) ∷ []) ∷ [])

-- 10 / e.a
abbrev pub quotient : QTerm
quotient = operation Div (Int (pos 10)) (Attr 0 0)

-- retrieve (e.a) where 10 / e.a = 5
abbrev pub halves : Query
halves = query (key (codes "n") ∷ []) (target (codes "a") (Of I4) (Attr 0 0) ∷ []) (Cmp Eq quotient (Int (pos 5)))

-- retrieve (x = 10 / e.a)
abbrev pub quotients : Query
quotients = query (key (codes "n") ∷ []) (target (codes "x") Wide quotient ∷ []) True

-- retrieve (e.a) where f.b = 1 or e.a = 2
abbrev pub over_nothing : Query
over_nothing =
    query (key (codes "n") ∷ key (codes "m") ∷ []) (target (codes "a") (Of I4) (Attr 0 0) ∷ [])
    (either (Cmp Eq (Attr 1 0) (Int (pos 1))) (Cmp Eq (Attr 0 0) (Int (pos 2))))

-- what the three queries give
pub record Answers : Type 0 where
  pub zero_is_no_divisor : answer db Unrestricted halves ≡ (num (pos 2) ∷ []) ∷ []
  pub a_target_lacks : lacks db Unrestricted quotients ≡ true
  pub nothing_over_nothing : answer db Unrestricted over_nothing ≡ []
