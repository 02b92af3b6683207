-- A relation that is made of an answer.
use Rattle.calculus.specs.Replacement.{updated}
use Rattle.calculus.specs.declared.change.DbChange.TheVariants as change
use Rattle.calculus_examples.specs.Small.{key, num, attr, relation, database, target, into}
use Rattle.std.specs.Prelude.{◌≡◌, ℕ, pos, [], ◌∷◌, Ok, Err, codes}
use Rattle.calculus_examples.specs.Words.{I1, I4, Of, Wide, Mul, Lt, Int, Attr, Cmp, Update, operation, query, Unrestricted, Db}

-- p (a) holds 1 and 2
abbrev pub db : Db
db = database (relation (codes "p") (attr (codes "a") (Of I1) ∷ []) ((num (pos 1) ∷ []) ∷ (num (pos 2) ∷ []) ∷ []) ∷ [])

-- retrieve into t (x.a, b = n * x.a) where x.a < 2
abbrev pub times : ℕ → Update
times n =
    into (codes "t") (0 ∷ 1 ∷ [])
    (query (key (codes "p") ∷ []) (target (codes "a") (Of I1) (Attr 0 0) ∷ target (codes "b") Wide (operation Mul (Int (pos n)) (Attr 0 0)) ∷ []) (Cmp Lt (Attr 0 0) (Int (pos 2))))

-- what is made
pub record Outcomes : Type 0 where
  pub a_computed_number_becomes_i4 : updated db Unrestricted (times 70000)
      ≡ Ok (change.Create (relation (codes "t") (attr (codes "a") (Of I1) ∷ attr (codes "b") (Of I4) ∷ []) []).info ((num (pos 1) ∷ num (pos 70000) ∷ []) ∷ []))
  pub and_must_fit : updated db Unrestricted (times 3000000000) ≡ Err 21
