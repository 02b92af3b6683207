-- What a table of files says of what is destroyed.
use Rattle.std.specs.Prelude.{ℕ, ◌==◌, ◌&&◌, ◌||◌, Bool, not, cond, List, [], ◌∷◌, map, Some, None}
use Rattle.std.specs.List.{list_any, flat_map}
use Rattle.calculus.specs.declared.query.RelKey.{RelKey}
use Rattle.calculus.specs.declared.schema.RelInfo.{RelInfo}
use Rattle.calculus.specs.declared.schema.Spec.{Spec}
use Rattle.calculus.specs.Database.{Db, rules_on, permits_on}
use Rattle.calculus.specs.Keys.{has_key}
use Rattle.calculus.specs.Structures.{is_view, is_index}
use Rattle.base_trait.specs.Known.{known_at, query_at}
use Rattle.quel_tree.specs.Permits as spellings
use Rattle.quel_tree.specs.Queries as queries
use Rattle.stored_database.specs.Columns.{Column}
use Rattle.stored_database.specs.Entries.{Entry}
use Rattle.stored_database.specs.Parts.{Part, of_view, of_rule, of_permit}
use Rattle.stored_database.specs.Printed.{Files, columns_from}
use Rattle.stored_database.specs.Trees.{cut, parts_from, tree_bytes}
use Rattle.catalog_moves.specs.declared.files.FilePlace.{FilePlace}
use Rattle.catalog_moves.specs.declared.gone.Sort.{Sort}
use Rattle.catalog_moves.specs.declared.gone.Sort.TheVariants as sort
use Rattle.catalog_moves.specs.declared.gone_trees.TreeSort.{TreeSort}
use Rattle.catalog_moves.specs.declared.gone_trees.TreeSort.TheVariants as trees
use Rattle.catalog_moves.specs.Moves.{entry_with}

-- what has this structure is of the sort
abbrev pub is_sort : Sort → Spec → Bool
is_sort sort.Relation spec = not (is_view spec) && not (is_index spec)
is_sort sort.View spec = is_view spec
is_sort sort.Index spec = is_index spec

-- the number of primary pages in an entry of the sort
abbrev pub primary_of : Sort → ℕ
primary_of sort.Relation = 1
primary_of sort.View = 0
primary_of sort.Index = 0

-- the number of pages in an entry of the sort, where the place says so many
abbrev pub used_of : Sort → ℕ → ℕ
used_of sort.Relation used = used
used_of sort.View used = 0
used_of sort.Index used = 0

-- the file is that of one of these
abbrev pub has_file : List RelKey → Files → ℕ → Bool
has_file rels f file = list_any (λ k. f.file k == file) rels

-- what lies at the place goes with these: it is one of them, or an index on one of them
abbrev pub goes : List RelKey → Files → FilePlace → Bool
goes rels f p = has_key rels p.key || (not (p.base == 0) && has_file rels f p.base)

-- ---- entries and attributes

-- what is known of what goes, where it is of the sort
abbrev pub gone_at : Sort → List RelKey → Files → Db → FilePlace → List RelInfo
gone_at s rels f db p = cond (goes rels f p) (elim (known_at db p.key) [ None ↦ [] | Some i ↦ cond (is_sort s i.spec) (i ∷ []) [] ]) []

-- its entry
abbrev pub gone_entries : Sort → List RelKey → Files → Db → FilePlace → List Entry
gone_entries s rels f db p = map (λ i. entry_with p.file p.base (primary_of s) (used_of s p.used) i) (gone_at s rels f db p)

-- its attributes
abbrev pub gone_columns : Sort → List RelKey → Files → Db → FilePlace → List Column
gone_columns s rels f db p = flat_map (λ i. columns_from p.file 0 i.attrs) (gone_at s rels f db p)

-- ---- trees

-- the parts of the tree of the view at a place
abbrev pub query_parts : Db → FilePlace → List Part
query_parts db p = elim (query_at db p.key) [ None ↦ [] | Some q ↦ parts_from p.file of_view 0 0 (cut (tree_bytes queries.query q)) ]

-- the parts of the rules of the relation at a place
abbrev pub rule_parts : Db → FilePlace → List Part
rule_parts db p = flat_map (λ r. parts_from p.file of_rule r.number 0 (cut (tree_bytes spellings.rule r))) (rules_on db p.key)

-- the parts of its permits
abbrev pub permit_parts : Db → FilePlace → List Part
permit_parts db p = flat_map (λ r. parts_from p.file of_permit r.number 0 (cut (tree_bytes spellings.permit r))) (permits_on db p.key)

-- the parts of the trees of the sort at a place
abbrev pub tree_parts : TreeSort → Db → FilePlace → List Part
tree_parts trees.View db p = query_parts db p
tree_parts trees.Rule db p = rule_parts db p
tree_parts trees.Permit db p = permit_parts db p

-- those parts, where what lies at the place is one of these
abbrev pub gone_parts : TreeSort → List RelKey → Db → FilePlace → List Part
gone_parts s rels db p = cond (has_key rels p.key) (tree_parts s db p) []
