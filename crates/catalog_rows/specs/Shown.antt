-- What the rows of the catalogues are as values.
use Rattle.std.specs.Prelude.{ℕ, ◌&&◌, nat_le, Bool, length, List, take, drop, Option, Some}
use Rattle.calculus.specs.Keys.{key_of}
use Rattle.calculus.specs.declared.query.RelKey.{RelKey}
use Rattle.page_chain.specs.Lists.{◌>>=◌}
use Rattle.stored_database.specs.Columns.{Column}
use Rattle.stored_database.specs.Entries.{Entry, suits_spec}
use Rattle.stored_database.specs.Names.{name_of}
use Rattle.stored_database.specs.Parts.{Part}
use Rattle.catalog_rows.specs.declared.entries.EntryRow.{EntryRow}
use Rattle.catalog_rows.specs.declared.columns.ColumnRow.{ColumnRow}
use Rattle.catalog_rows.specs.declared.part_rows.PartRow.{PartRow}

-- the entry that it is
abbrev pub entry_in : EntryRow → Entry
entry_in e = record { file = e.file; key = e.key; spec = e.spec; base = e.base; primary = e.primary; directory = e.directory; used = e.used; keys = e.keys }

-- the attribute of a file that it is
abbrev pub column_in : ColumnRow → Column
column_in c = record { file = c.file; place = c.place; attr = c.attr }

-- the part of a tree that it is
abbrev pub part_in : PartRow → Part
part_in p = record { file = p.file; sort = p.sort; number = p.number; place = p.place; bytes = p.bytes }

-- the names in the places of an entry
abbrev pub key_at : List ℕ → Option RelKey
key_at bytes = do
  owner ← name_of (take 12 (drop 4 bytes))
  name ← name_of (take 12 (drop 16 bytes))
  Some (key_of owner name)

-- what is left to be tested of an entry whose names are names and whose numbers have four bytes: its file, how many keys there are, and what suits what it is
abbrev pub is_in_order : Entry → Bool
is_in_order e = nat_le 16 e.file && (nat_le (length e.keys) 6 && suits_spec e)
