-- The database that a catalogue and the files of its relations spell.
use Rattle.std.specs.Prelude.{ℕ, ◌==◌, ◌&&◌, not, Bool, true, false, List, [], map, filter, find, Option, Some, None}
use Rattle.std.specs.List.{list_all}
use Rattle.calculus.specs.declared.value.Domain.{Domain}
use Rattle.calculus.specs.declared.value.Kind.TheVariants.{Of, Wide}
use Rattle.calculus.specs.declared.query.RelKey.{RelKey}
use Rattle.calculus.specs.declared.schema.Spec.{Spec}
use Rattle.calculus.specs.declared.schema.Attr.{Attr}
use Rattle.calculus.specs.declared.schema.RelInfo.{RelInfo}
use Rattle.calculus.specs.declared.schema.Permit.{Permit}
use Rattle.calculus.specs.declared.schema.Rule.{Rule}
use Rattle.calculus.specs.Keys.{key_cmp, numbered_cmp}
use Rattle.calculus.specs.Database as database
use Rattle.calculus.specs.Structures.{is_structure, is_view, is_index}
use Rattle.page_chain.specs.Lists.{◌>>=◌, when, check, each, once, are_from}
use Rattle.page_chain.specs.Pages.{Pages}
use Rattle.page_chain.specs.Rows.{set_on, reader}
use Rattle.stored_database.specs.Catalogue.{Catalogue}
use Rattle.stored_database.specs.Entries.{Entry}
use Rattle.stored_database.specs.Parts.{Part, of_view, of_rule, of_permit}
use Rattle.stored_database.specs.Trees.{query_of, rule_of, permit_of, tree_at, parts_are_whole, firsts}

-- ---- entries

-- the entry whose file this is
unfoldable pub entry_at : Catalogue → ℕ → Option Entry
entry_at cat file = find (λ e. e.file == file) cat.entries

-- the entry whose file this is passes the test
unfoldable pub entry_is : (Spec → Bool) → Catalogue → ℕ → Bool
entry_is test cat file = elim (entry_at cat file) [ None ↦ false | Some e ↦ test e.spec ]

-- the attributes of what has this file: those at the places 0, 1, 2 and so on
unfoldable pub attrs_of : Catalogue → ℕ → Option (List Attr)
attrs_of cat file = let columns = filter (λ c. c.file == file) cat.columns in when (are_from (λ c. c.place) 0 columns) (map (λ c. c.attr) columns)

-- what is known of an entry without its rows
abbrev pub info_of : Entry → List Attr → RelInfo
info_of e attrs = record { key = e.key; spec = e.spec; attrs = attrs; keys = e.keys }

-- ---- relations

-- the domain of an attribute
abbrev pub domain_of : Attr → Option Domain
domain_of a = elim a.kind [ Wide ↦ None | Of domain ↦ Some domain ]

-- the relation of an entry
unfoldable pub relation_of : (ℕ → Pages) → Catalogue → Entry → Option database.Relation
relation_of files cat e = do
  attrs ← attrs_of cat e.file
  domains ← each domain_of attrs
  rows ← set_on (reader domains) e.used (files e.file)
  Some (record { info = info_of e attrs; rows = rows })

-- ---- indexes, views, rules and permits

-- the index of an entry, on the relation whose file is its base
unfoldable pub index_of : Catalogue → Entry → Option database.Index
index_of cat e = do
  base ← entry_at cat e.base
  Some (record { info = info_of e []; base = base.key })

-- the view of an entry
unfoldable pub view_of : Catalogue → Entry → Option database.View
view_of cat e = do
  attrs ← attrs_of cat e.file
  bytes ← tree_at cat.parts e.file of_view 0
  query ← query_of bytes
  Some (record { info = info_of e attrs; query = query })

-- the rule or permit of a part, beside the key of its relation: a tree that has the number of its parts
unfoldable pub numbered_of : {X : Type 0} → (List ℕ → Option X) → (X → ℕ) → Catalogue → Part → Option (RelKey × X)
numbered_of read number cat p = do
  e ← entry_at cat p.file
  bytes ← tree_at cat.parts p.file p.sort p.number
  x ← read bytes
  when (number x == p.number) (e.key, x)

-- ---- the database

-- each attribute is of a relation or a view that is there
unfoldable pub columns_stand : Catalogue → Bool
columns_stand cat = list_all (λ c. entry_is (λ s. not (is_index s)) cat c.file) cat.columns

-- the part is of tree 0 of a view, or of a rule or a permit of a relation, and the view or relation is there
unfoldable pub part_stands : Catalogue → Part → Bool
part_stands cat p = elim (p.sort == of_view) [ true ↦ (p.number == 0) && entry_is is_view cat p.file | false ↦ entry_is is_structure cat p.file ]

-- each part is of a whole tree of what is there
unfoldable pub parts_stand : Catalogue → Bool
parts_stand cat = list_all (part_stands cat) cat.parts && parts_are_whole cat.parts

-- the entries that are relations, views or indexes
abbrev pub entries_that : (Spec → Bool) → Catalogue → List Entry
entries_that test cat = filter (λ e. test e.spec) cat.entries

-- the relations
unfoldable pub relations_of : (ℕ → Pages) → Catalogue → Option (List database.Relation)
relations_of files cat = each (relation_of files cat) (entries_that is_structure cat) >>= once (λ a b. key_cmp a.info.key b.info.key)

-- the indexes
unfoldable pub indexes_of : Catalogue → Option (List database.Index)
indexes_of cat = each (index_of cat) (entries_that is_index cat) >>= once (λ a b. key_cmp a.info.key b.info.key)

-- the views
unfoldable pub views_of : Catalogue → Option (List database.View)
views_of cat = each (view_of cat) (entries_that is_view cat) >>= once (λ a b. key_cmp a.info.key b.info.key)

-- the rules
unfoldable pub rules_of : Catalogue → Option (List (RelKey × Rule))
rules_of cat = each (numbered_of rule_of (λ r. r.number) cat) (firsts of_rule cat.parts) >>= once (numbered_cmp (λ r. r.number))

-- the permits
unfoldable pub permits_of : Catalogue → Option (List (RelKey × Permit))
permits_of cat = each (numbered_of permit_of (λ p. p.number) cat) (firsts of_permit cat.parts) >>= once (numbered_cmp (λ p. p.number))

-- the database of this administrator that a catalogue and files spell
unfoldable pub spelled : List ℕ → (ℕ → Pages) → Catalogue → Option database.Db
spelled dba files cat = do
  sound ← check (columns_stand cat && parts_stand cat)
  relations ← relations_of files cat
  indexes ← indexes_of cat
  views ← views_of cat
  rules ← rules_of cat
  permits ← permits_of cat
  Some (record { dba = dba; relations = relations; indexes = indexes; views = views; rules = rules; permits = permits })
