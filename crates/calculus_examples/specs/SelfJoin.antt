-- One view that stands twice in a query.
use Rattle.calculus.specs.Answer.{answer}
use Rattle.calculus_examples.specs.Small.{key, num, attr, relation, view, target}
use Rattle.std.specs.Prelude.{◌≡◌, pos, [], ◌∷◌, codes}
use Rattle.calculus_examples.specs.Words.{I2, Of, Eq, Lt, Attr, True, Cmp, Query, both, query, Unrestricted, Db}

-- define view pair (l = x.a, r = y.b)
abbrev pub pair : Query
pair = query (key (codes "p") ∷ key (codes "q") ∷ []) (target (codes "l") (Of I2) (Attr 0 0) ∷ target (codes "r") (Of I2) (Attr 1 0) ∷ []) True

-- define view big (n = x.a) where x.a < y.b
abbrev pub big : Query
big = query (key (codes "p") ∷ key (codes "q") ∷ []) (target (codes "n") (Of I2) (Attr 0 0) ∷ []) (Cmp Lt (Attr 0 0) (Attr 1 0))

-- p (a) holds 1 and 2, q (b) holds 2
abbrev pub db : Db
db = record {
  dba = codes "ann";
  relations =
      relation (codes "p") (attr (codes "a") (Of I2) ∷ []) ((num (pos 1) ∷ []) ∷ (num (pos 2) ∷ []) ∷ [])
      ∷ relation (codes "q") (attr (codes "b") (Of I2) ∷ []) ((num (pos 2) ∷ []) ∷ [])
      ∷ [];
  indexes = [];
  views = view (codes "big") (attr (codes "n") (Of I2) ∷ []) big ∷ view (codes "pair") (attr (codes "l") (Of I2) ∷ attr (codes "r") (Of I2) ∷ []) pair ∷ [];
  rules = [];
  permits = [];
}

-- retrieve (s.l, t.l) where s.l < t.l and s.r = t.r
abbrev pub ordered : Query
ordered =
    query (key (codes "pair") ∷ key (codes "pair") ∷ []) (target (codes "l") (Of I2) (Attr 0 0) ∷ target (codes "l") (Of I2) (Attr 1 0) ∷ [])
    (both (Cmp Lt (Attr 0 0) (Attr 1 0)) (Cmp Eq (Attr 0 1) (Attr 1 1)))

-- retrieve (u.n)
abbrev pub all_big : Query
all_big = query (key (codes "big") ∷ []) (target (codes "n") (Of I2) (Attr 0 0) ∷ []) True

-- what the queries give
pub record Answers : Type 0 where
  pub both_rows_vary : answer db Unrestricted ordered ≡ (num (pos 1) ∷ num (pos 2) ∷ []) ∷ []
  pub one_is_big : answer db Unrestricted all_big ≡ (num (pos 1) ∷ []) ∷ []
