-- What is asked of a part of a database is told by its schema.
use Rattle.std.proofs.Common.{◌≡◌, refl, sym, ap, ◌∙◌, List, Some, None, Result, Ok, Err, IfOk}
use Rattle.std.specs.Prelude.{option_map}
use Rattle.std.proofs.lemmas.Option.{same_Some}
use Rattle.calculus.specs.declared.query.RelKey.{RelKey}
use Rattle.calculus.specs.Database.{Db, permits_on, rules_on}
use Rattle.calculus.specs.Schema.{schema_of}
use Rattle.schema_laws.proofs.Alike.{catalogue_alike, entry_alike}
use Rattle.base_trait.specs.Known.{is_named_by_view, known_at, query_at}

-- ---- what is the same of a schema

pub known_alike : (db : Db) (key : RelKey) → known_at (schema_of db) key ≡ known_at db key
unfolding known_at
known_alike db key =
    λ i. elim (entry_alike db key i) [ Some info ↦ Some info | None ↦ option_map (λ r. r.info) (catalogue_alike db key i) ]

pub dba_alike : (db : Db) → (schema_of db).dba ≡ db.dba
unfolding schema_of
dba_alike db = refl

pub view_alike : (db : Db) (key : RelKey) → query_at (schema_of db) key ≡ query_at db key
unfolding schema_of
view_alike db key = refl

pub rules_alike : (db : Db) (key : RelKey) → rules_on (schema_of db) key ≡ rules_on db key
unfolding schema_of
rules_alike db key = refl

pub permits_alike : (db : Db) (key : RelKey) → permits_on (schema_of db) key ≡ permits_on db key
unfolding schema_of
permits_alike db key = refl

pub named_alike : (db : Db) (but : List RelKey) (key : RelKey) → is_named_by_view (schema_of db) but key ≡ is_named_by_view db but key
unfolding schema_of
named_alike db but key = refl

-- ---- answers

-- the answer is told by this database
pub answer_is : {T E A : Type 0} (of : T → A) (x y : A) (result : Result T E) → x ≡ y → IfOk result (λ r. of r ≡ x) → IfOk result (λ r. of r ≡ y)
answer_is of x y (Ok r) same is = is ∙ same
answer_is of x y (Err e) same is = is

-- what is told by a schema is told by its database
pub schema_answer : {T E A : Type 0} (of : T → A) (q : Db → A) (db : Db) → ((db : Db) → q (schema_of db) ≡ q db) → (result : Result T E) → IfOk result (λ r. of r ≡ q (schema_of db)) → IfOk result (λ r. of r ≡ q db)
schema_answer of q db alike result is = answer_is of (q (schema_of db)) (q db) result (alike db) is

module _ (now before s : Db) (kept : Some now ≡ Some before) (schema : Some (schema_of now) ≡ Some s) where
  -- the schema of the database that was asked
  of_schema : schema_of before ≡ s
  of_schema = ap schema_of (sym (same_Some now before kept)) ∙ same_Some (schema_of now) s schema

  pub asked : {T A E : Type 0} (of : T → A) (q : Db → A) → ((db : Db) → q (schema_of db) ≡ q db) → (result : Result T E) → IfOk result (λ r. of r ≡ q before) → IfOk result (λ r. of r ≡ q s)
  asked of q alike result is = answer_is of (q before) (q s) result (sym (alike before) ∙ ap q of_schema) is
