-- What it is that an expansion tells of rows.
use Rattle.std.specs.Prelude.{◌≡◌, ℕ, true, List, map, slice_get}
use Rattle.std.specs.List.{Contains, list_all}
use Rattle.calculus.specs.Rows.{Row}
use Rattle.calculus.specs.Term.{Env, val, holds, no_aggs}
use Rattle.calculus.specs.Assignments.{choices}
use Rattle.calculus.specs.Database.{Db}
use Rattle.calculus.specs.Stored.{rows_at}
use Rattle.view_text.specs.declared.expansion.Expansion.{Expansion}
use Rattle.view_text.specs.Expansions.{attr_term}

-- the assignment gives each variable of the expansion a row that is kept, the conditions of the expansion hold in it, and its attributes have the values of this row
pub record HasRow (db : Db) (expansion : Expansion) (row : Row) (e : Env) : Type 0 where
  pub chosen : Contains (choices (map (rows_at db) expansion.vars)) e
  pub holding : list_all (λ q. holds no_aggs q e) expansion.conditions ≡ true
  pub values : (a : ℕ) → val no_aggs (attr_term expansion a) e ≡ slice_get row a

-- an expansion tells of rows: each assignment of kept rows in which its conditions hold has one of them, and each of them is had in one
pub record DenotesOf (db : Db) (rows : List Row) (expansion : Expansion) : Type 0 where
  pub one_of_them : (e : Env) → Contains (choices (map (rows_at db) expansion.vars)) e → list_all (λ q. holds no_aggs q e) expansion.conditions ≡ true → (row : Row) × Contains rows row × HasRow db expansion row e
  pub each_of_them : (row : Row) → Contains rows row → (e : Env) × HasRow db expansion row e
