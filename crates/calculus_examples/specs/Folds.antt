-- Aggregates over all rows, over no rows, and over a row without a value.
use Rattle.calculus.specs.Answer.{answer, lacks}
use Rattle.calculus.specs.declared.operator.AggOp.{AggOp}
use Rattle.calculus_examples.specs.Small.{num, attr, relation, database, target, fold_of}
use Rattle.std.specs.Prelude.{◌≡◌, ℤ, pos, negsuc, true, List, [], ◌∷◌, codes}
use Rattle.calculus_examples.specs.Words.{I1, I2, Of, Wide, Sub, Div, Eq, Lt, Gt, Count, Countu, Sum, Sumu, Avg, Min, Max, Any, QTerm, Int, Attr, QQual, True, Cmp, Query, operation, query, aggregate, Row, Unrestricted, Db}

-- a row of s
abbrev pub pair : ℤ → ℤ → Row
pair k v = num k ∷ num v ∷ []

-- s (k, v) holds 1 with -4, 1 with -3, 2 with 5 and 3 with 5
abbrev pub db : Db
db = database (
    relation (codes "s") (attr (codes "k") (Of I1) ∷ attr (codes "v") (Of I2) ∷ [])
    (pair (pos 1) (negsuc 3) ∷ pair (pos 1) (negsuc 2) ∷ pair (pos 2) (pos 5) ∷ pair (pos 3) (pos 5) ∷ [])
    ∷ [])

-- an aggregate over s, alone
abbrev pub alone : AggOp → QTerm → QQual → Query
alone op arg qual = query [] (target (codes "x") Wide (aggregate (fold_of op (codes "s") arg qual)) ∷ []) True

-- one row with this number
abbrev pub row_of : ℤ → List Row
row_of n = (num n ∷ []) ∷ []

-- what the aggregates give
pub record Answers : Type 0 where
  pub a_mean_is_cut_toward_zero : answer db Unrestricted (alone Avg (Attr 0 1) (Cmp Lt (Attr 0 1) (Int (pos 0)))) ≡ row_of (negsuc 2)
  pub different_values : answer db Unrestricted (alone Countu (Attr 0 1) True) ≡ row_of (pos 3)
  pub all_rows : answer db Unrestricted (alone Count (Attr 0 1) True) ≡ row_of (pos 4)
  pub the_greatest_of_none : answer db Unrestricted (alone Max (Attr 0 1) (Cmp Gt (Attr 0 1) (Int (pos 9)))) ≡ row_of (pos 0)
  pub there_is_one : answer db Unrestricted (alone Any (Attr 0 1) (Cmp Eq (Attr 0 0) (Int (pos 2)))) ≡ row_of (pos 1)
  pub the_least : answer db Unrestricted (alone Min (Attr 0 1) True) ≡ row_of (negsuc 3)
  pub sum_of_different : answer db Unrestricted (alone Sumu (Attr 0 1) True) ≡ row_of (negsuc 1)
  pub a_row_without_a_value : lacks db Unrestricted (alone Sum (operation Div (Attr 0 1) (operation Sub (Attr 0 0) (Int (pos 1)))) True) ≡ true
  pub even_a_count_lacks : lacks db Unrestricted (alone Count (operation Div (Attr 0 1) (operation Sub (Attr 0 0) (Int (pos 1)))) True) ≡ true
