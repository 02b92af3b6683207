-- The parts of a database that rows of a catalogue make, whatever else stands in it.
use Rattle.std.specs.Prelude.{Option, Some}
use Rattle.calculus.specs.Structures.{is_structure, is_view, is_index}
use Rattle.page_chain.specs.Lists.{◌>>=◌, each}
use Rattle.stored_database.specs.Catalogue.{Catalogue}
use Rattle.stored_database.specs.Parts.{of_rule, of_permit}
use Rattle.stored_database.specs.Spelled.{entries_that, index_of, view_of, numbered_of}
use Rattle.stored_database.specs.Trees.{rule_of, permit_of, firsts}
use Rattle.catalog_read.specs.Parts.{Parts}
use Rattle.catalog_read.specs.Read.{relation_info}

-- the relations, indexes, views, rules and permits, where each can be made
unfoldable pub parts_made : Catalogue → Option Parts
parts_made cat = do
  relations ← each (relation_info cat) (entries_that is_structure cat)
  indexes ← each (index_of cat) (entries_that is_index cat)
  views ← each (view_of cat) (entries_that is_view cat)
  rules ← each (numbered_of rule_of (λ r. r.number) cat) (firsts of_rule cat.parts)
  permits ← each (numbered_of permit_of (λ p. p.number) cat) (firsts of_permit cat.parts)
  Some (record { relations = relations; indexes = indexes; views = views; rules = rules; permits = permits })
