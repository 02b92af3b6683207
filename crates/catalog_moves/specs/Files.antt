-- The files of what stands in a database, as a table.
use Rattle.std.specs.Prelude.{ℕ, ◌==◌, Bool, false, List, find, Option, Some, None, if◌then◌else◌}
use Rattle.std.specs.declared.cmp.Ordering.{Ordering}
use Rattle.calculus.specs.declared.query.RelKey.{RelKey}
use Rattle.calculus.specs.declared.change.DbChange.{DbChange}
use Rattle.calculus.specs.declared.change.DbChange.TheVariants as change
use Rattle.calculus.specs.Keys.{has_key, key_of, key_cmp, same_key}
use Rattle.catalog_rows.specs.declared.entries.EntryRow.{EntryRow}
use Rattle.stored_database.specs.Printed.{Files}
use Rattle.catalog_moves.specs.declared.files.FilePlace.{FilePlace}
use Rattle.catalog_moves.specs.declared.files.FileTable.{FileTable}
use Rattle.catalog_moves.specs.declared.key_set.KeySet.{KeySet}

-- where what stands under a key lies
unfoldable pub place_at : List FilePlace → RelKey → Option FilePlace
place_at places key = find (λ p. same_key p.key key) places

-- places by their keys
abbrev pub by_place : FilePlace → FilePlace → Ordering
by_place a b = key_cmp a.key b.key

-- the places of a table
abbrev pub places_of : FileTable → List FilePlace
places_of table = table.places.items

-- a number that no file of a table is above
abbrev pub greatest_of : FileTable → ℕ
greatest_of table = table.greatest

-- the place that an entry says
abbrev pub place_in : EntryRow → FilePlace
place_in e = record { key = e.key; file = e.file; used = e.used; base = e.base }

-- what a table says is the file of the relation below an index; 0 of anything else
unfoldable pub base_at : List FilePlace → RelKey → ℕ
base_at places key = elim (place_at places key) [ None ↦ 0 | Some p ↦ p.base ]

-- what stands under the key is an index on the relation with this file
unfoldable pub on_base : ℕ → List FilePlace → RelKey → Bool
on_base file places key = elim (place_at places key) [ None ↦ false | Some p ↦ p.base == file ]

-- the files that places say; 0 where there is none
unfoldable pub files_at : List FilePlace → Files
files_at places = record {
  file = λ key. elim (place_at places key) [ None ↦ 0 | Some p ↦ p.file ];
  used = λ key. elim (place_at places key) [ None ↦ 0 | Some p ↦ p.used ];
}

-- the files that a table says
abbrev pub files_of : FileTable → Files
files_of table = files_at table.places.items

-- the same files, but that what stands under this key has this one, with so many pages
unfoldable pub with_file : RelKey → ℕ → ℕ → Files → Files
with_file key file used f = record {
  file = λ k. if same_key k key then file else f.file k;
  used = λ k. if same_key k key then used else f.used k;
}

-- what a change makes, or of what it may change the number of pages
unfoldable pub placed_key : DbChange → Option RelKey
placed_key (change.Rows rel remove add) = Some rel
placed_key (change.Create info rows) = Some info.key
placed_key (change.Destroy rels) = None
placed_key (change.Modify rel to keys) = Some rel
placed_key (change.Index base name keys) = Some (key_of base.owner name)
placed_key (change.View info query) = Some info.key
placed_key (change.Permit rel permit) = None
placed_key (change.Rule rel rule) = None
placed_key (change.DropPermits rel numbers) = None
placed_key (change.DropRules rel numbers) = None

-- the files after a change that gives what it makes this file, or what it changes so many pages
unfoldable pub files_after : DbChange → ℕ → ℕ → Files → Files
files_after made file used f = elim (placed_key made) [ None ↦ f | Some key ↦ with_file key file used f ]

-- the key is one of a set
unfoldable pub is_in : KeySet → RelKey → Bool
is_in set key = has_key set.keys.items key
