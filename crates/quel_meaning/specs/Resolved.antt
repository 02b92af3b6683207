-- What a statement asks for: its tree, or the number of what refuses it.
use Rattle.std.specs.Prelude.{ℕ, Bool, true, List, [], ◌∷◌, map, filter_map, take, drop, unwrap_or, Option, Some, None, Result, Ok, Err}
use Rattle.calculus.specs.declared.query.QTerm.{Attr}
use Rattle.calculus.specs.declared.query.QQual.{QQual, True, Like}
use Rattle.calculus.specs.declared.query.Target.{Target}
use Rattle.calculus.specs.declared.query.Query.{Query}
use Rattle.calculus.specs.declared.request.SortKey.{SortKey}
use Rattle.calculus.specs.declared.request.Asked.{Asked}
use Rattle.calculus.specs.declared.request.CopyForm.{CopyForm}
use Rattle.calculus.specs.declared.request.CopyCol.{CopyCol}
use Rattle.calculus.specs.declared.request.Utility.TheVariants as utility
use Rattle.calculus.specs.declared.request.Checked.{Checked}
use Rattle.calculus.specs.declared.request.Checked.TheVariants as checked
use Rattle.calculus.specs.declared.schema.Attr.{Attr as Attribute}
use Rattle.calculus.specs.declared.schema.RelInfo.{RelInfo}
use Rattle.calculus.specs.declared.statement.Statement.{Statement}
use Rattle.calculus.specs.declared.statement.Statement.TheVariants as statement
use Rattle.calculus.specs.declared.value.Domain.{Domain}
use Rattle.calculus.specs.declared.value.Kind.TheVariants.{Of}
use Rattle.calculus.specs.Keys.{key_of}
use Rattle.calculus.specs.Database.{Db}
use Rattle.calculus.specs.Catalogue.{relation_key, attribute_key, relation_attrs, attribute_attrs}
use Rattle.calculus.specs.QueryParts.{targets_of, qual_of}
use Rattle.calculus.specs.Replacement.{first_refusal}
use Rattle.calculus.specs.Stored.{attrs_in}
use Rattle.calculus.specs.Tree.{both, either, query}
use Rattle.quel_meaning.specs.Ranges.{Ranges}
use Rattle.quel_meaning.specs.Scope.{Scope, named, ranged, entry_named, key_found, place_found}
use Rattle.quel_meaning.specs.Naming.{name_refusal}
use Rattle.quel_meaning.specs.WrittenQuery.{attr_targets, query_of}
use Rattle.quel_meaning.specs.Structures.{structure_keys}
use Rattle.quel_meaning.specs.StatementUpdate.{append_of, replace_of, delete_of, into_of}
use Rattle.quel_meaning.specs.Causes.{refusals, title_place}

-- ---- queries that are asked

-- a query whose rows ascend
abbrev pub unsorted : Query → Asked
unsorted q = record { query = q; sort = [] }

-- the column of the first target with this title; column 0 where there is none, to which no statement comes that sorts by titles
abbrev pub sort_key : List Target → (List ℕ × Bool) → SortKey
sort_key targets k = record { column = unwrap_or (title_place targets k.0) 0; down = k.1 }

-- all of what was found: each attribute of its rows
abbrev pub whole : Option RelInfo → Asked
whole info = unsorted (query (key_found info ∷ []) (attr_targets 0 (attrs_in info)) True)

-- the text at this place of the first variable's row is this name, whose bytes are all plain in a pattern
abbrev pub is_name_at : ℕ → List ℕ → QQual
is_name_at place name = Like (Attr 0 place) name true

-- names, owners and structures of the entries whose owner is the user or the administrator
abbrev pub help_on_all : Scope → Asked
help_on_all s = unsorted (query (relation_key s.db ∷ []) (take 3 (attr_targets 0 relation_attrs)) (either (is_name_at 1 s.user) (is_name_at 1 s.db.dba)))

-- numbers, names and formats of the attributes of what was found
abbrev pub help_on : Scope → Option RelInfo → Asked
help_on s info =
    unsorted
    (query (attribute_key s.db ∷ []) (drop 2 (attr_targets 0 attribute_attrs)) (both (is_name_at 0 (key_found info).name) (is_name_at 1 (key_found info).owner)))

-- ---- utilities

-- an attribute with its domain
abbrev pub stored_attr : (List ℕ × Domain) → Attribute
stored_attr a = record { name = a.0; kind = Of a.1 }

-- a column of a file with the place of its attribute
abbrev pub copy_col : Option RelInfo → (List ℕ × CopyForm) → CopyCol
copy_col info c = record { attr = place_found info c.0; form = c.1 }

-- ---- the tree

-- what a statement asks for whose query is this; of a declaration of a variable nothing, as it asks for nothing
abbrev pub tree_by : Scope → Query → Statement → Checked
tree_by s q (statement.Range var rel) = checked.Answer []
tree_by s q (statement.Retrieve None items qual sort) = checked.Answer (record { query = q; sort = map (sort_key (targets_of q)) sort } ∷ [])
tree_by s q (statement.Retrieve (Some name) items qual sort) = checked.Update (into_of s name q)
tree_by s q (statement.Append rel items qual) = checked.Update (append_of s rel q)
tree_by s q (statement.Replace var items qual) = checked.Update (replace_of s var q)
tree_by s q (statement.Delete var qual) = checked.Update (delete_of s var q)
tree_by s q (statement.Create rel attrs) = checked.Utility (utility.Create (key_of s.user rel) (map stored_attr attrs))
tree_by s q (statement.Destroy rels) = checked.Utility (utility.Destroy (filter_map (entry_named s) rels))
tree_by s q (statement.DropPermits rel numbers) = checked.Utility (utility.DropPermits (key_found (named s rel)) numbers)
tree_by s q (statement.DropRules rel numbers) = checked.Utility (utility.DropRules (key_found (named s rel)) numbers)
tree_by s q (statement.Modify rel to keys) =
    checked.Utility (utility.Modify (key_found (named s rel)) to (structure_keys to (map (place_found (named s rel)) keys)))
tree_by s q (statement.Index base name keys) = checked.Utility (utility.Index (key_found (named s base)) name (map (place_found (named s base)) keys))
tree_by s q (statement.Print rels) = checked.Answer (map (λ rel. whole (named s rel)) rels)
tree_by s q (statement.Help None) = checked.Answer (help_on_all s ∷ [])
tree_by s q (statement.Help (Some rel)) = checked.Answer (help_on s (named s rel) ∷ [])
tree_by s q (statement.Copy rel columns from file) = checked.Utility (utility.Copy (key_found (named s rel)) (map (copy_col (named s rel)) columns) from file)
tree_by s q (statement.View name items qual) = checked.Utility (utility.View (key_of s.user name) q)
tree_by s q (statement.Permit ops var attrs user qual) =
    checked.Utility
    (utility.Permit (key_found (ranged s var))
    (record { number = 0; ops = ops; attrs = map (place_found (ranged s var)) attrs; user = user; qual = qual_of q }))
tree_by s q (statement.Rule var qual) = checked.Utility (utility.Rule (key_found (ranged s var)) (record { number = 0; qual = qual_of q }))

-- what a statement asks for whose names were found and which nothing refuses
unfoldable pub tree_of : Scope → Statement → Checked
tree_of s stmt = tree_by s (query_of s stmt) stmt

-- what a statement asks for, or the number of what refuses it: the first name in its text that isn't what it has to be, else the first cause that is there
unfoldable pub resolved : Db → List ℕ → Ranges → Statement → Result Checked ℕ
resolved db user ranges stmt =
    let s : Scope = record { db = db; user = user; ranges = ranges } in
    elim (name_refusal s stmt) [
      | Some number ↦ Err number
      | None ↦ elim (first_refusal (refusals s stmt)) [ Some number ↦ Err number | None ↦ Ok (tree_of s stmt) ]
    ]
