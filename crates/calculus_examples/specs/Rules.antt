-- An integrity rule, which leaves out a new row that breaks it.
use Rattle.calculus.specs.Pairs.{ruled}
use Rattle.calculus.specs.Replacement.{updated}
use Rattle.calculus.specs.declared.change.DbChange.TheVariants as change
use Rattle.calculus_examples.specs.Small.{key, num, attr, relation, target, replace}
use Rattle.std.specs.Prelude.{◌≡◌, pos, [], ◌∷◌, Ok, codes}
use Rattle.calculus_examples.specs.Words.{I2, Of, Wide, Sub, Gt, Int, Attr, True, Cmp, Update, operation, query, Unrestricted, Db}

-- w (sal) holds 12 and 20, and each salary is above 10
abbrev pub db : Db
db = record {
  dba = codes "ann";
  relations = relation (codes "w") (attr (codes "sal") (Of I2) ∷ []) ((num (pos 12) ∷ []) ∷ (num (pos 20) ∷ []) ∷ []) ∷ [];
  indexes = [];
  views = [];
  rules = (key (codes "w"), record { number = 1; qual = Cmp Gt (Attr 0 0) (Int (pos 10)) }) ∷ [];
  permits = [];
}

-- replace e (sal = e.sal - 5)
abbrev pub five_less : Update
five_less = replace (codes "w") (0 ∷ []) (query (key (codes "w") ∷ []) (target (codes "sal") Wide (operation Sub (Attr 0 0) (Int (pos 5))) ∷ []) True)

-- what becomes of w, with the rule and without it
pub record Outcomes : Type 0 where
  pub the_old_row_stays : updated db Unrestricted (ruled db five_less) ≡ Ok (change.Rows (key (codes "w")) ((num (pos 20) ∷ []) ∷ []) ((num (pos 15) ∷ []) ∷ []))
  pub a_tree_has_its_checks_alone : updated db Unrestricted five_less
      ≡ Ok (change.Rows (key (codes "w")) ((num (pos 12) ∷ []) ∷ (num (pos 20) ∷ []) ∷ []) ((num (pos 7) ∷ []) ∷ (num (pos 15) ∷ []) ∷ []))
