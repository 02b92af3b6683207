-- Databases on disk, and what their pages stand for where a byte of them is changed.
use Rattle.std.specs.Prelude.{◌≡◌, [], ◌∷◌, map, Some, None, option_map, option_and_then}
use Rattle.page_chain.specs.Pages.{pages_of}
use Rattle.quel_tree.specs.Queries.{query}
use Rattle.stored_database.specs.Denoting.{Denotes, denoted, stored, database_of}
use Rattle.stored_database.specs.Catalogue.{catalogue_in}
use Rattle.stored_database.specs.Parts.{of_view}
use Rattle.stored_database.specs.Trees.{tree_at, tree_bytes}
use Rattle.stored_database.specs.Damage.{with_byte}
use Rattle.stored_database.specs.LongView as long
use Rattle.stored_database.specs.TwoHeaps as two
use Rattle.stored_database.specs.Permits as permits
use Rattle.stored_database.specs.Turned as turned

-- two heaps with a few rows, and what is no database
pub record TwoHeaps : Type 0 where
  pub as_made : Denotes two.image two.db
  pub a_free_byte : denoted (with_byte two.image 16 0 100 7) ≡ Some two.db
  pub no_header : denoted (with_byte two.image 0 0 0 74) ≡ None
  pub another_form : denoted (with_byte two.image 0 0 8 2) ≡ None
  pub not_born : denoted (with_byte two.image 0 1 0 0) ≡ None
  pub a_page_that_is_not_there : denoted (with_byte two.image 5 0 0 1) ≡ None
  pub a_page_past_those_used : denoted (with_byte two.image 16 0 0 1) ≡ None
  pub more_used_than_linked : denoted (with_byte two.image 5 0 1013 2) ≡ None
  pub no_structure : denoted (with_byte two.image 5 0 1000 9) ≡ None
  pub rows_that_overlap : denoted (with_byte two.image 5 0 12 160) ≡ None
  pub low_past_the_end : denoted (with_byte two.image 16 0 7 4) ≡ None
  pub many_lines : denoted (with_byte two.image 16 0 5 255) ≡ None
  pub a_place_twice : denoted (with_byte two.image 6 0 1009 1) ≡ None
  pub an_attribute_of_nothing : denoted (with_byte two.image 6 0 1005 99) ≡ None
  pub one_file_twice : denoted (with_byte two.image 5 0 972 17) ≡ None
  pub one_name_twice : denoted (with_byte two.image 5 0 988 113) ≡ None
  pub no_text : denoted (with_byte two.image 16 0 1021 7) ≡ None

-- an index, rules and permits, and a relation of three pages
pub record Permits : Type 0 where
  pub as_made : Denotes permits.image permits.db
  pub in_the_other_order : stored turned.image ≡ Some permits.db
  pub no_tree : denoted (with_byte permits.image 7 0 1023 3) ≡ None
  pub another_number : denoted (with_byte permits.image 7 0 1013 7) ≡ None
  pub no_first_part : denoted (with_byte permits.image 7 0 1017 1) ≡ None
  pub a_sort_of_no_tree : denoted (with_byte permits.image 7 0 1012 0) ≡ None
  pub a_chain_cut_short : denoted (with_byte permits.image 19 0 0 2) ≡ None
  pub a_chain_that_circles : denoted (with_byte permits.image 19 1 0 1) ≡ None
  pub a_row_twice : denoted (with_byte permits.image 19 0 962 1) ≡ None

-- a view whose tree has two parts
pub record LongView : Type 0 where
  pub as_made : option_map (λ db. map (λ v. v.info) db.views) (database_of long.image) ≡ Some (long.info ∷ [])
  pub whole_tree : option_and_then (λ cat. tree_at cat.parts 17 of_view 0) (catalogue_in (pages_of long.image)) ≡ Some (tree_bytes query long.query)
  pub no_second_part : denoted (with_byte (with_byte long.image 7 1 10 0) 7 1 11 0) ≡ None
  pub a_place_left_out : denoted (with_byte long.image 7 1 871 2) ≡ None
  pub a_byte_of_the_tree : denoted (with_byte long.image 7 0 141 9) ≡ None
  pub a_tree_of_a_relation : denoted (with_byte (with_byte long.image 7 0 113 16) 7 1 862 16) ≡ None
