-- What a table of files says of the indexes of a database.
use Rattle.std.specs.Prelude.{◌≡◌, ℕ, ◌==◌, true, cond, List, [], ◌∷◌, map, Some, None, is_some}
use Rattle.std.specs.List.{AllByRecursion, list_all}
use Rattle.calculus.specs.declared.query.RelKey.{RelKey}
use Rattle.calculus.specs.Database.{Db, entries, is_there}
use Rattle.stored_database.specs.ChangeLaws.{FilesDiffer}
use Rattle.base_trait.specs.Known.{known_at}
use Rattle.stored_database.specs.Entries.{Entry, entry_bytes}
use Rattle.stored_database.specs.Printed.{is_file}
use Rattle.catalog_moves.specs.declared.files.FilePlace.{FilePlace}
use Rattle.catalog_moves.specs.Moves.{entry_with}
use Rattle.catalog_moves.specs.declared.files.FileTable.{FileTable}
use Rattle.catalog_moves.specs.Files.{place_at, places_of, files_of, base_at}

-- The table is one of the database: it has places for what is there and nothing else, each a file of its own, and it says the file of the relation below each index, and 0 of a relation or a view.
pub record IndexBases (table : FileTable) (db : Db) : Type 0 where
  pub there : (key : RelKey) → is_some (place_at (places_of table) key) ≡ true → is_there db key ≡ true
  pub are_files : list_all (λ i. is_file ((files_of table).file i.key)) (entries db) ≡ true
  pub files_differ : FilesDiffer db (files_of table)
  pub relations : AllByRecursion (λ r. base_at (places_of table) r.info.key ≡ 0) db.relations
  pub views : AllByRecursion (λ v. base_at (places_of table) v.info.key ≡ 0) db.views
  pub indexes : AllByRecursion (λ x. base_at (places_of table) x.info.key ≡ (files_of table).file x.base) db.indexes

-- the entry of the index at a place, by what is known under its key
abbrev pub index_entries : Db → FilePlace → List Entry
index_entries db p = elim (known_at db p.key) [ None ↦ [] | Some info ↦ entry_with p.file p.base 0 0 info ∷ [] ]

-- the bytes of the entry at a place, where it is that of an index on the relation with this file
abbrev pub rows_on : ℕ → Db → FilePlace → List (List ℕ)
rows_on base db p = cond (p.base == base) (map entry_bytes (index_entries db p)) []
