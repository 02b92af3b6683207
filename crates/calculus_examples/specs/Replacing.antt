-- Rows that are replaced one by one, and one row with two new values.
use Rattle.calculus.specs.Replacement.{updated}
use Rattle.calculus.specs.declared.change.DbChange.TheVariants as change
use Rattle.calculus_examples.specs.Small.{key, num, attr, relation, database, target, replace}
use Rattle.std.specs.Prelude.{◌≡◌, pos, [], ◌∷◌, Ok, Err, codes}
use Rattle.calculus_examples.specs.Words.{I2, Of, Wide, Add, Sub, Div, Eq, Lt, Int, Attr, True, Cmp, Update, operation, query, Unrestricted, Db}

-- s (a) holds 1, 2 and 3, t (b) holds 5 and 6
abbrev pub db : Db
db = database (
    relation (codes "s") (attr (codes "a") (Of I2) ∷ []) ((num (pos 1) ∷ []) ∷ (num (pos 2) ∷ []) ∷ (num (pos 3) ∷ []) ∷ [])
    ∷ relation (codes "t") (attr (codes "b") (Of I2) ∷ []) ((num (pos 5) ∷ []) ∷ (num (pos 6) ∷ []) ∷ [])
    ∷ [])

-- replace e (a = e.a + 1)
abbrev pub one_more : Update
one_more = replace (codes "s") (0 ∷ []) (query (key (codes "s") ∷ []) (target (codes "a") Wide (operation Add (Attr 0 0) (Int (pos 1))) ∷ []) True)

-- replace e (a = f.b) where e.a = 2
abbrev pub two_values : Update
two_values =
    replace (codes "s") (0 ∷ [])
    (query (key (codes "s") ∷ key (codes "t") ∷ []) (target (codes "a") (Of I2) (Attr 1 0) ∷ []) (Cmp Eq (Attr 0 0) (Int (pos 2))))

-- replace e (a = 7 / (e.a - 1)) where e.a < 3: of one row no value, of another one that fits
abbrev pub by_zero : Update
by_zero =
    replace (codes "s") (0 ∷ [])
    (query (key (codes "s") ∷ []) (target (codes "a") Wide (operation Div (Int (pos 7)) (operation Sub (Attr 0 0) (Int (pos 1)))) ∷ []) (Cmp Lt (Attr 0 0) (Int (pos 3))))

-- replace e (a = 40000)
abbrev pub too_great : Update
too_great = replace (codes "s") (0 ∷ []) (query (key (codes "s") ∷ []) (target (codes "a") Wide (Int (pos 40000)) ∷ []) True)

-- what the updates make of s
pub record Outcomes : Type 0 where
  pub all_at_once : updated db Unrestricted one_more ≡ Ok (change.Rows (key (codes "s")) ((num (pos 1) ∷ []) ∷ []) ((num (pos 4) ∷ []) ∷ []))
  pub two_values_for_one_row : updated db Unrestricted two_values ≡ Err 22
  pub no_value : updated db Unrestricted by_zero ≡ Err 20
  pub does_not_fit : updated db Unrestricted too_great ≡ Err 21
