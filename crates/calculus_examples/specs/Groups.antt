-- An aggregate for each group of rows.
use Rattle.calculus.specs.Answer.{answer}
use Rattle.calculus_examples.specs.Small.{key, num, attr, relation, database, target}
use Rattle.std.specs.Prelude.{◌≡◌, pos, [], ◌∷◌, codes}
use Rattle.calculus_examples.specs.Words.{I2, Of, Wide, Gt, Sum, Named, Int, Attr, True, Cmp, QAgg, Query, query, aggregate, Unrestricted, Db}

-- g (d, s) holds 1 with 5 and 2 with 50
abbrev pub db : Db
db = database (
    relation (codes "g") (attr (codes "d") (Of I2) ∷ attr (codes "s") (Of I2) ∷ [])
    ((num (pos 1) ∷ num (pos 5) ∷ []) ∷ (num (pos 2) ∷ num (pos 50) ∷ []) ∷ [])
    ∷ [])

-- sum(e.s by e.d where e.s > 10)
abbrev pub sum_by_d : QAgg
sum_by_d = record { slot = 0; op = Sum; source = Named (key (codes "g")); arg = Attr 0 1; by = Attr 0 0 ∷ []; link = Attr 0 0 ∷ []; qual = Cmp Gt (Attr 0 1) (Int (pos 10)) }

-- retrieve (e.d, n = sum(e.s by e.d where e.s > 10))
abbrev pub sums : Query
sums = query (key (codes "g") ∷ []) (target (codes "d") (Of I2) (Attr 0 0) ∷ target (codes "n") Wide (aggregate sum_by_d) ∷ []) True

-- what the query gives
pub record Answers : Type 0 where
  pub a_group_of_no_rows_sums_to_zero : answer db Unrestricted sums ≡ (num (pos 1) ∷ num (pos 0) ∷ []) ∷ (num (pos 2) ∷ num (pos 50) ∷ []) ∷ []
