-- What a lawful change names is there, and what it makes is new.
use Rattle.std.proofs.Common.{◌≡◌, subst, true, not, ℕ, List}
use Rattle.calculus.specs.declared.query.RelKey.{RelKey}
use Rattle.calculus.specs.declared.schema.Spec.{Spec}
use Rattle.calculus.specs.declared.change.DbChange.{DbChange}
use Rattle.calculus.specs.declared.change.DbChange.TheVariants as change
use Rattle.calculus.specs.Change.{IsLawful, names_what_is_there, adds_what_is_new}
use Rattle.calculus.specs.Database.{Db, is_relation, is_there}
use Rattle.calculus.specs.Keys.{key_of}
use Rattle.calculus.specs.Rows.{Row}
use Rattle.stored_database.proofs.Reading.{both}

pub rows_on_relation : (db : Db) (made : DbChange) (rel : RelKey) (remove add : List Row) → made ≡ change.Rows rel remove add → IsLawful db made → is_relation db rel ≡ true
unfolding names_what_is_there
rows_on_relation db made rel remove add e lawful = (both (is_relation db rel) _ (subst (λ made. names_what_is_there db made ≡ true) e lawful.names_are_there)).0

pub modify_on_relation : (db : Db) (made : DbChange) (rel : RelKey) (to : Spec) (keys : List ℕ) → made ≡ change.Modify rel to keys → IsLawful db made → is_relation db rel ≡ true
unfolding names_what_is_there
modify_on_relation db made rel to keys e lawful = subst (λ made. names_what_is_there db made ≡ true) e lawful.names_are_there

pub index_on_relation : (db : Db) (made : DbChange) (base : RelKey) (name keys : List ℕ) → made ≡ change.Index base name keys → IsLawful db made → is_relation db base ≡ true
unfolding names_what_is_there
index_on_relation db made base name keys e lawful = subst (λ made. names_what_is_there db made ≡ true) e lawful.names_are_there

pub index_is_new : (db : Db) (made : DbChange) (base : RelKey) (name keys : List ℕ) → made ≡ change.Index base name keys → IsLawful db made → not (is_there db (key_of base.owner name)) ≡ true
unfolding adds_what_is_new
index_is_new db made base name keys e lawful = subst (λ made. adds_what_is_new db made ≡ true) e lawful.additions_are_new
