-- Whoever is unrestricted sees all rows that are kept.
use Rattle.std.proofs.Common.{◌≡◌, refl, ap, ℕ, zero, suc, Bool, true, false, List, [], ◌∷◌, Option, Some, None}
use Rattle.std.specs.Prelude.{filter}
use Rattle.calculus.specs.declared.query.RelKey.{RelKey}
use Rattle.calculus.specs.Assignments.{Source, rows_used}
use Rattle.calculus.specs.Database.{Db, View}
use Rattle.calculus.specs.Limits.{greatest_level}
use Rattle.calculus.specs.Lists.{is_any}
use Rattle.calculus.specs.Rights.{Right, Retrieve, may}
use Rattle.calculus.specs.Rows.{Row}
use Rattle.calculus.specs.Stored.{Range, Kept, Viewed, range_at, kept_rows, rows_at}
use Rattle.calculus.specs.VariableRows.{range_rows, rows_within, rows_of}
use Rattle.calculus.specs.Who.{Unrestricted}
use Rattle.quel_meaning.specs.FitQueries.{keeps_rows, is_kept}

pub may_unrestricted : (db : Db) (right : Right) (attrs : List ℕ) (key : RelKey) (row : Row) → may db Unrestricted right attrs key row ≡ true
unfolding may
may_unrestricted db right attrs key row = refl

-- what passes everywhere takes nothing away
pub filter_all : {A : Type 0} (p : A → Bool) (xs : List A) → ((x : A) → p x ≡ true) → filter p xs ≡ xs
filter_all p [] f = refl
filter_all p (x ∷ xs) f = rw (f x) (ap (λ ys. x ∷ ys) (filter_all p xs f))

range_kept : (f : View → List Row) (db : Db) (key : RelKey) (attrs : List ℕ) (o : Option Range) → keeps_rows o ≡ true → range_rows f db Unrestricted key attrs o ≡ kept_rows o
range_kept f db key attrs None h = absurd cc
range_kept f db key attrs (Some (Kept relation)) h = filter_all (may db Unrestricted Retrieve attrs key) relation.rows (λ row. may_unrestricted db Retrieve attrs key row)
range_kept f db key attrs (Some (Viewed view)) h = absurd cc

within_kept : (n : ℕ) (db : Db) (key : RelKey) (attrs : List ℕ) → is_kept db key ≡ true → rows_within n db Unrestricted key attrs ≡ rows_at db key
within_kept zero db key attrs h = range_kept _ db key attrs (range_at db key) h
within_kept (suc n) db key attrs h = range_kept _ db key attrs (range_at db key) h

-- the rows of a variable over what is kept
pub kept_all : (db : Db) (key : RelKey) (attrs : List ℕ) → is_kept db key ≡ true → rows_of db Unrestricted key attrs ≡ rows_at db key
unfolding rows_of
kept_all db key attrs h = within_kept greatest_level db key attrs h

-- those of one that is used
pub used_rows : (db : Db) (key : RelKey) (attrs : List ℕ) → is_kept db key ≡ true → is_any attrs ≡ true → rows_used (rows_of db Unrestricted) key attrs ≡ rows_at db key
used_rows db key [] h used = absurd cc
used_rows db key (a ∷ attrs) h used = kept_all db key (a ∷ attrs) h

-- the row of one that isn't
pub unused_row : (source : Source) (key : RelKey) (attrs : List ℕ) → is_any attrs ≡ false → rows_used source key attrs ≡ [] ∷ []
unused_row source key [] unused = refl
unused_row source key (a ∷ attrs) unused = absurd cc
