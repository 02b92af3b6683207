-- A database, and what stands in it under a key.
use Rattle.std.specs.Prelude.{ℕ, Bool, List, map, ◌++◌, Option, find, filter, is_some}
use Rattle.calculus.specs.declared.query.RelKey.{RelKey}
use Rattle.calculus.specs.declared.query.Query.{Query}
use Rattle.calculus.specs.declared.schema.RelInfo.{RelInfo}
use Rattle.calculus.specs.declared.schema.Permit.{Permit}
use Rattle.calculus.specs.declared.schema.Rule.{Rule}
use Rattle.calculus.specs.Rows.{Row}
use Rattle.calculus.specs.Keys.{same_key}

-- a base relation: its key, attributes, structure and keys, and the set of its rows
pub record Relation : Type 0 where
  pub info : RelInfo
  pub rows : List Row

-- a secondary index: its key and key attributes, and the relation below it
pub record Index : Type 0 where
  pub info : RelInfo
  pub base : RelKey

-- a view: its key and attributes, and the query whose rows it has
pub record View : Type 0 where
  pub info : RelInfo
  pub query : Query

-- a database: the name of its administrator; its relations, indexes and views; its rules and permits, each beside the key of its relation
pub record Db : Type 0 where
  pub dba : List ℕ
  pub relations : List Relation
  pub indexes : List Index
  pub views : List View
  pub rules : List (RelKey × Rule)
  pub permits : List (RelKey × Permit)

-- the base relation under a key
abbrev pub relation_at : Db → RelKey → Option Relation
relation_at db key = find (λ r. same_key r.info.key key) db.relations

-- a base relation stands under the key
abbrev pub is_relation : Db → RelKey → Bool
is_relation db key = is_some (relation_at db key)

-- the index under a key
abbrev pub index_at : Db → RelKey → Option Index
index_at db key = find (λ x. same_key x.info.key key) db.indexes

-- the view under a key
abbrev pub view_at : Db → RelKey → Option View
view_at db key = find (λ v. same_key v.info.key key) db.views

-- what is known, without rows, of each relation, view and index
abbrev pub entries : Db → List RelInfo
entries db = map (λ r. r.info) db.relations ++ (map (λ v. v.info) db.views ++ map (λ x. x.info) db.indexes)

-- what is known of the relation, view or index under a key
abbrev pub entry_at : Db → RelKey → Option RelInfo
entry_at db key = find (λ i. same_key i.key key) (entries db)

-- a relation, view or index stands under the key
abbrev pub is_there : Db → RelKey → Bool
is_there db key = is_some (entry_at db key)

-- the rules of a relation, by number
abbrev pub rules_on : Db → RelKey → List Rule
rules_on db key = map (λ p. p.1) (filter (λ p. same_key p.0 key) db.rules)

-- the permits of a relation, by number
abbrev pub permits_on : Db → RelKey → List Permit
permits_on db key = map (λ p. p.1) (filter (λ p. same_key p.0 key) db.permits)
