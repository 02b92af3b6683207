-- A database but for the rows of its relations, in parts that lie in any order.
use Rattle.std.specs.Prelude.{ℕ, Bool, bytes_eq, List, [], map, Option, Some}
use Rattle.std.specs.List.{list_all}
use Rattle.calculus.specs.declared.query.RelKey.{RelKey}
use Rattle.calculus.specs.declared.schema.RelInfo.{RelInfo}
use Rattle.calculus.specs.declared.schema.Permit.{Permit}
use Rattle.calculus.specs.declared.schema.Rule.{Rule}
use Rattle.calculus.specs.Database.{Db, Relation, Index, View}
use Rattle.calculus.specs.Keys.{key_cmp, numbered_cmp}
use Rattle.page_chain.specs.Lists.{◌>>=◌, once}
use Rattle.catalog_read.specs.declared.parts.IndexPart.{IndexPart}
use Rattle.catalog_read.specs.declared.parts.ViewPart.{ViewPart}
use Rattle.catalog_read.specs.declared.parts.SchemaParts.{SchemaParts}

-- what a database is but for the rows of its relations, in parts
pub record Parts : Type 0 where
  pub relations : List RelInfo
  pub indexes : List Index
  pub views : List View
  pub rules : List (RelKey × Rule)
  pub permits : List (RelKey × Permit)

-- the relation without rows
abbrev pub relation_in : RelInfo → Relation
relation_in info = record { info = info; rows = [] }

-- the index
abbrev pub index_in : IndexPart → Index
index_in x = record { info = x.info; base = x.base }

-- the view
abbrev pub view_in : ViewPart → View
view_in v = record { info = v.info; query = v.query }

-- these parts
unfoldable pub parts_in : SchemaParts → Parts
parts_in p = record { relations = p.relations; indexes = map index_in p.indexes; views = map view_in p.views; rules = p.rules; permits = p.permits }

-- the database of this administrator that the parts make, where nothing of them stands twice; its relations have no rows
unfoldable pub whole : List ℕ → Parts → Option Db
whole dba parts = do
  relations ← once (λ a b. key_cmp a.info.key b.info.key) (map relation_in parts.relations)
  indexes ← once (λ a b. key_cmp a.info.key b.info.key) parts.indexes
  views ← once (λ a b. key_cmp a.info.key b.info.key) parts.views
  rules ← once (numbered_cmp (λ r. r.number)) parts.rules
  permits ← once (numbered_cmp (λ p. p.number)) parts.permits
  Some (record { dba = dba; relations = relations; indexes = indexes; views = views; rules = rules; permits = permits })

-- each index has the owner of its relation
unfoldable pub index_owners_agree : Db → Bool
index_owners_agree db = list_all (λ x. bytes_eq x.info.key.owner x.base.owner) db.indexes
