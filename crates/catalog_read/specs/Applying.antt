-- How the parts of a database are applied: as changes, in rounds.
use Rattle.std.specs.Prelude.{ℕ, Bool, true, false, not, ◌&&◌, bytes_eq, IsTrue, List, [], ◌∷◌, ◌++◌, map, flat_map}
use Rattle.std.specs.List.{list_all, AllByRecursion}
use Rattle.std.specs.Prelude.{◌≡◌}
use Rattle.calculus.specs.declared.query.RelKey.{RelKey}
use Rattle.calculus.specs.declared.schema.RelInfo.{RelInfo}
use Rattle.calculus.specs.declared.schema.Permit.{Permit}
use Rattle.calculus.specs.declared.schema.Rule.{Rule}
use Rattle.calculus.specs.declared.change.DbChange.{DbChange}
use Rattle.calculus.specs.declared.change.DbChange.TheVariants as change
use Rattle.calculus.specs.Change.{laid, index_info}
use Rattle.calculus.specs.Database.{Db, Index, View}
use Rattle.calculus.specs.Lists.{is_any}
use Rattle.calculus.specs.Structures.{is_index}
use Rattle.change_laws.specs.Fit.{change_is_fit}
use Rattle.catalog_read.specs.declared.parts.SchemaParts.{SchemaParts}
use Rattle.catalog_read.specs.Parts.{Parts, index_in, view_in}

-- ---- parts as changes

-- the change that makes the relation without rows
abbrev pub made_relation : RelInfo → DbChange
made_relation info = change.Create info []

-- the change that makes the index
abbrev pub made_index : Index → DbChange
made_index x = change.Index x.base x.info.key.name x.info.keys

-- the change that makes the view
abbrev pub made_view : View → DbChange
made_view v = change.View v.info v.query

-- the change that makes the rule
abbrev pub made_rule : RelKey × Rule → DbChange
made_rule p = change.Rule p.0 p.1

-- the change that makes the permit
abbrev pub made_permit : RelKey × Permit → DbChange
made_permit p = change.Permit p.0 p.1

-- the changes that make the parts
unfoldable pub changes_of : SchemaParts → List DbChange
changes_of p =
    (((map made_relation p.relations ++ map (λ x. made_index (index_in x)) p.indexes) ++ map (λ v. made_view (view_in v)) p.views) ++ map made_rule p.rules)
    ++ map made_permit p.permits

-- an index as a change makes it: without attributes, and with the owner of its relation
abbrev pub is_of_its_base : Index → Bool
is_of_its_base x = is_index x.info.spec && (not (is_any x.info.attrs) && bytes_eq x.info.key.owner x.base.owner)

-- ---- changes as parts

-- the relation that is made
abbrev pub relation_of : DbChange → List RelInfo
relation_of (change.Rows rel remove add) = []
relation_of (change.Create info rows) = info ∷ []
relation_of (change.Destroy rels) = []
relation_of (change.Modify rel to keys) = []
relation_of (change.Index base name keys) = []
relation_of (change.View info query) = []
relation_of (change.Permit rel permit) = []
relation_of (change.Rule rel rule) = []
relation_of (change.DropPermits rel numbers) = []
relation_of (change.DropRules rel numbers) = []

-- the index that is made
abbrev pub index_of : DbChange → List Index
index_of (change.Rows rel remove add) = []
index_of (change.Create info rows) = []
index_of (change.Destroy rels) = []
index_of (change.Modify rel to keys) = []
index_of (change.Index base name keys) = record { info = index_info base name keys; base = base } ∷ []
index_of (change.View info query) = []
index_of (change.Permit rel permit) = []
index_of (change.Rule rel rule) = []
index_of (change.DropPermits rel numbers) = []
index_of (change.DropRules rel numbers) = []

-- the view that is made
abbrev pub view_of : DbChange → List View
view_of (change.Rows rel remove add) = []
view_of (change.Create info rows) = []
view_of (change.Destroy rels) = []
view_of (change.Modify rel to keys) = []
view_of (change.Index base name keys) = []
view_of (change.View info query) = record { info = info; query = query } ∷ []
view_of (change.Permit rel permit) = []
view_of (change.Rule rel rule) = []
view_of (change.DropPermits rel numbers) = []
view_of (change.DropRules rel numbers) = []

-- the rule that is made
abbrev pub rule_of : DbChange → List (RelKey × Rule)
rule_of (change.Rows rel remove add) = []
rule_of (change.Create info rows) = []
rule_of (change.Destroy rels) = []
rule_of (change.Modify rel to keys) = []
rule_of (change.Index base name keys) = []
rule_of (change.View info query) = []
rule_of (change.Permit rel permit) = []
rule_of (change.Rule rel rule) = (rel, rule) ∷ []
rule_of (change.DropPermits rel numbers) = []
rule_of (change.DropRules rel numbers) = []

-- the permit that is made
abbrev pub permit_of : DbChange → List (RelKey × Permit)
permit_of (change.Rows rel remove add) = []
permit_of (change.Create info rows) = []
permit_of (change.Destroy rels) = []
permit_of (change.Modify rel to keys) = []
permit_of (change.Index base name keys) = []
permit_of (change.View info query) = []
permit_of (change.Permit rel permit) = (rel, permit) ∷ []
permit_of (change.Rule rel rule) = []
permit_of (change.DropPermits rel numbers) = []
permit_of (change.DropRules rel numbers) = []

-- the change makes a part: a relation without rows, an index, a view, a rule or a permit
abbrev pub makes_a_part : DbChange → Bool
makes_a_part (change.Rows rel remove add) = false
makes_a_part (change.Create info rows) = not (is_any rows)
makes_a_part (change.Destroy rels) = false
makes_a_part (change.Modify rel to keys) = false
makes_a_part (change.Index base name keys) = true
makes_a_part (change.View info query) = true
makes_a_part (change.Permit rel permit) = true
makes_a_part (change.Rule rel rule) = true
makes_a_part (change.DropPermits rel numbers) = false
makes_a_part (change.DropRules rel numbers) = false

-- ---- lists in another order

-- the one list has the items of the other, in any order
pub data Shuffled {X : Type 0} : List X → List X → Type 0 where
  nothing : Shuffled [] []
  beside : (x : X) {xs ys : List X} → Shuffled xs ys → Shuffled (x ∷ xs) (x ∷ ys)
  swapped : (x y : X) (xs : List X) → Shuffled (x ∷ y ∷ xs) (y ∷ x ∷ xs)
  twice : {xs ys zs : List X} → Shuffled xs ys → Shuffled ys zs → Shuffled xs zs

-- the changes that are left and what stands in the database of this administrator are together these parts, in any order; its relations have no rows
pub record IsLeft (dba : List ℕ) (changes : List DbChange) (db : Db) (parts : Parts) : Type 0 where
  pub administrator : db.dba ≡ dba
  pub kinds : IsTrue (list_all makes_a_part changes)
  pub bare : AllByRecursion (λ r. r.rows ≡ []) db.relations
  pub relations : Shuffled (flat_map relation_of changes ++ map (λ r. r.info) db.relations) parts.relations
  pub indexes : Shuffled (flat_map index_of changes ++ db.indexes) parts.indexes
  pub views : Shuffled (flat_map view_of changes ++ db.views) parts.views
  pub rules : Shuffled (flat_map rule_of changes ++ db.rules) parts.rules
  pub permits : Shuffled (flat_map permit_of changes ++ db.permits) parts.permits

-- the database of this administrator without anything in it
abbrev pub nothing_in : List ℕ → Db
nothing_in dba = record { dba = dba; relations = []; indexes = []; views = []; rules = []; permits = [] }

-- ---- rounds

-- a round: each change that may be applied is applied, one by one; the database then, and the changes that are left
unfoldable pub round : Db → List DbChange → Db × List DbChange
round db [] = (db, [])
round db (c ∷ cs) = elim (change_is_fit db c) [
  | true ↦ round (laid db c) cs
  | false ↦ (let later = round db cs in (later.0, c ∷ later.1))
]

-- a round of changes behind others that were left in it
abbrev pub behind : List DbChange → Db × List DbChange → Db × List DbChange
behind left later = (later.0, left ++ later.1)

-- one change of a round, behind those that were left in it: the database then, and those that are left
abbrev pub stepped : Db → List DbChange → DbChange → Db × List DbChange
stepped db left c = elim (change_is_fit db c) [ true ↦ (laid db c, left) | false ↦ (db, left ++ c ∷ []) ]
