-- A replacement of two attributes by each other, a replacement that makes rows equal, and a deletion.
use Rattle.calculus.specs.Replacement.{updated}
use Rattle.calculus.specs.declared.change.DbChange.TheVariants as change
use Rattle.calculus_examples.specs.Small.{key, num, attr, relation, database, target, replace, delete}
use Rattle.std.specs.Prelude.{◌≡◌, ℕ, pos, List, [], ◌∷◌, Ok, codes}
use Rattle.calculus_examples.specs.Words.{I2, Of, Wide, Eq, Int, Attr, True, Cmp, Update, query, Row, Unrestricted, Db}

-- a row of p
abbrev pub pair : ℕ → ℕ → Row
pair a b = num (pos a) ∷ num (pos b) ∷ []

-- p (a, b) with these rows
abbrev pub db : List Row → Db
db rows = database (relation (codes "p") (attr (codes "a") (Of I2) ∷ attr (codes "b") (Of I2) ∷ []) rows ∷ [])

-- replace x (a = x.b, b = x.a)
abbrev pub swap : Update
swap = replace (codes "p") (0 ∷ 1 ∷ []) (query (key (codes "p") ∷ []) (target (codes "a") (Of I2) (Attr 0 1) ∷ target (codes "b") (Of I2) (Attr 0 0) ∷ []) True)

-- replace x (a = 0, b = 0)
abbrev pub level : Update
level = replace (codes "p") (0 ∷ 1 ∷ []) (query (key (codes "p") ∷ []) (target (codes "a") Wide (Int (pos 0)) ∷ target (codes "b") Wide (Int (pos 0)) ∷ []) True)

-- delete x where x.a = 0
abbrev pub clear : Update
clear = delete (codes "p") (query (key (codes "p") ∷ []) [] (Cmp Eq (Attr 0 0) (Int (pos 0))))

-- what the updates make of p
pub record Outcomes : Type 0 where
  pub swapped : updated (db (pair 1 2 ∷ pair 2 1 ∷ [])) Unrestricted swap ≡ Ok (change.Rows (key (codes "p")) [] [])
  pub levelled : updated (db (pair 1 2 ∷ pair 2 1 ∷ [])) Unrestricted level ≡ Ok (change.Rows (key (codes "p")) (pair 1 2 ∷ pair 2 1 ∷ []) (pair 0 0 ∷ []))
  pub cleared : updated (db (pair 0 0 ∷ [])) Unrestricted clear ≡ Ok (change.Rows (key (codes "p")) (pair 0 0 ∷ []) [])
