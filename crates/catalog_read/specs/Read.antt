-- What the rows of the three catalogues say.
use Rattle.std.specs.Prelude.{ℕ, ◌&&◌, List, map, Option, Some, option_map}
use Rattle.calculus.specs.declared.schema.RelInfo.{RelInfo}
use Rattle.calculus.specs.Structures.{is_structure, is_view, is_index}
use Rattle.page_chain.specs.Lists.{◌>>=◌, check, each, once}
use Rattle.stored_database.specs.Catalogue.{Catalogue}
use Rattle.stored_database.specs.Columns.{column_of, column_cmp}
use Rattle.stored_database.specs.Entries.{Entry, entry_of, entry_cmp}
use Rattle.stored_database.specs.Parts.{part_of, part_cmp, of_rule, of_permit}
use Rattle.stored_database.specs.Spelled.{attrs_of, info_of, columns_stand, parts_stand, entries_that, index_of, view_of, numbered_of}
use Rattle.stored_database.specs.Trees.{rule_of, permit_of, firsts}
use Rattle.catalog_rows.specs.Shown.{entry_in, column_in, part_in}
use Rattle.catalog_read.specs.Parts.{Parts}
use Rattle.catalog_read.specs.declared.rows.CatalogueRows.{CatalogueRows}

-- the catalogue that these rows of values are
unfoldable pub catalogue_shown : CatalogueRows → Catalogue
catalogue_shown c = record { entries = map entry_in c.entries; columns = map column_in c.columns; parts = map part_in c.parts }

-- the catalogue whose rows have these bytes, in whatever order they lie
unfoldable pub catalogue_of : List (List ℕ) → List (List ℕ) → List (List ℕ) → Option Catalogue
catalogue_of entry_rows column_rows part_rows = do
  entries ← each entry_of entry_rows >>= once entry_cmp
  columns ← each column_of column_rows >>= once column_cmp
  parts ← each part_of part_rows >>= once part_cmp
  Some (record { entries = entries; columns = columns; parts = parts })

-- what is known of a relation's entry without its rows
unfoldable pub relation_info : Catalogue → Entry → Option RelInfo
relation_info cat e = option_map (info_of e) (attrs_of cat e.file)

-- the parts of a database that a catalogue spells, without the rows of its relations
unfoldable pub parts_of : Catalogue → Option Parts
parts_of cat = do
  sound ← check (columns_stand cat && parts_stand cat)
  relations ← each (relation_info cat) (entries_that is_structure cat)
  indexes ← each (index_of cat) (entries_that is_index cat)
  views ← each (view_of cat) (entries_that is_view cat)
  rules ← each (numbered_of rule_of (λ r. r.number) cat) (firsts of_rule cat.parts)
  permits ← each (numbered_of permit_of (λ p. p.number) cat) (firsts of_permit cat.parts)
  Some (record { relations = relations; indexes = indexes; views = views; rules = rules; permits = permits })
