-- Computed.
use Rattle.std.proofs.Common.{refl}
use Rattle.calculus.specs.Change.{laid, names_what_is_there, adds_what_is_new, lists_once}
use Rattle.calculus.specs.Name.{is_name}
use Rattle.calculus.specs.Text.{is_text, text_of}
use Rattle.calculus.specs.Chars.{is_chars}
use Rattle.calculus.specs.Aggregate.{aggregates}
use Rattle.calculus.specs.Assignments.{assigned}
use Rattle.calculus.specs.Catalogue.{catalogue_at}
use Rattle.calculus.specs.Constant.{constant_text, unescaped}
use Rattle.calculus.specs.Kinds.{kind_of, attribute_kind, constant_kind, number_kind, operated_kind, joined_kind, is_text_kind, kinds_fit, comparable}
use Rattle.calculus.specs.Pattern.{matches, items, fits_items}
use Rattle.calculus.specs.QueryParts.{term_aggregates, qual_aggregates}
use Rattle.calculus.specs.Rights.{may, covers, permitted}
use Rattle.calculus.specs.Sizes.{level_of, term_size, qual_size, measure_of, query_size, variables, expanded_variables}
use Rattle.calculus.specs.Stored.{range_at, info_at}
use Rattle.calculus.specs.Targets.{rows_given, some_lacks}
use Rattle.calculus.specs.Term.{val, holds, attribute_value, opposite_value, value_without_sign, operated_values, joined_values, compared_values, matched_value, values_of}
use Rattle.calculus.specs.VariableRows.{rows_of}
use Rattle.calculus.specs.Finding.{found}
use Rattle.batch_file.specs.Redone.{redone, damage}
use Rattle.page_cells.specs.Page as page
use Rattle.page_cells.specs.RowBytes as rows
use Rattle.page_chain.specs.Chains as c
use Rattle.page_chain.specs.Lying as y
use Rattle.page_chain.specs.Pages as w
use Rattle.page_chain.specs.Rows as r
use Rattle.quel_tree.specs.Names.{name, chars}
use Rattle.quel_tree.specs.Operators.{arith_op, cmp_op, agg_op}
use Rattle.quel_tree.specs.Permits.{permit, rule}
use Rattle.quel_tree.specs.Queries.{trees}
use Rattle.quel_tree.specs.Relations.{rel_key}
use Rattle.quel_tree.specs.Values.{domain, kind}
use Rattle.tree_words.specs.Ways.{flag, option}
use Rattle.tree_words.specs.Whole.{reads_whole}
use Rattle.tree_words.specs.Words.{items_read, list, spelt, short, number16, number32, number64}
use Rattle.stored_database.specs.Catalogue.{listed, catalogue_in}
use Rattle.stored_database.specs.Columns as k
use Rattle.stored_database.specs.Entries as e
use Rattle.stored_database.specs.IsOne.{is_database}
use Rattle.stored_database.specs.Names.{name_bytes, name_of}
use Rattle.stored_database.specs.Parts as p
use Rattle.stored_database.specs.Spelled as s
use Rattle.stored_database.specs.Denoting.{denoted, stored, database_of, header_of, header_bytes}
use Rattle.stored_database.specs.Tried as Tried
use Rattle.stored_database.specs.Trees as t

pub two_heaps : Tried.TwoHeaps
unfolding laid names_what_is_there adds_what_is_new lists_once is_name is_text is_chars aggregates assigned catalogue_at constant_text unescaped kind_of attribute_kind constant_kind number_kind operated_kind joined_kind is_text_kind kinds_fit comparable matches items fits_items term_aggregates qual_aggregates may covers permitted level_of term_size qual_size measure_of query_size variables expanded_variables range_at info_at rows_given some_lacks val holds attribute_value opposite_value value_without_sign operated_values joined_values compared_values matched_value values_of rows_of found text_of page.next_page page.slots rows.number_of_bytes redone damage c.chain c.whole_chain y.lying_on y.lying w.is_page w.next_of r.placed_on r.set_on r.reader denoted stored database_of header_of header_bytes name_bytes name_of is_database e.suits_spec e.is_entry e.entry_bytes e.fields_in e.entry_in e.entry_of k.is_column k.column_bytes k.column_in k.column_of p.is_part p.part_bytes p.part_in p.part_of listed catalogue_in t.are_cut t.joined s.entry_at s.entry_is s.attrs_of s.relation_of s.index_of s.view_of s.numbered_of s.columns_stand s.part_stands s.parts_stand s.relations_of s.indexes_of s.views_of s.rules_of s.permits_of s.spelled
two_heaps = record { as_made = refl; a_free_byte = refl; no_header = refl; another_form = refl; not_born = refl; a_page_that_is_not_there = refl; a_page_past_those_used = refl; more_used_than_linked = refl; no_structure = refl; rows_that_overlap = refl; low_past_the_end = refl; many_lines = refl; a_place_twice = refl; an_attribute_of_nothing = refl; one_file_twice = refl; one_name_twice = refl; no_text = refl }

pub permits : Tried.Permits
unfolding laid names_what_is_there adds_what_is_new lists_once is_name is_text is_chars aggregates assigned catalogue_at constant_text unescaped kind_of attribute_kind constant_kind number_kind operated_kind joined_kind is_text_kind kinds_fit comparable matches items fits_items term_aggregates qual_aggregates may covers permitted level_of term_size qual_size measure_of query_size variables expanded_variables range_at info_at rows_given some_lacks val holds attribute_value opposite_value value_without_sign operated_values joined_values compared_values matched_value values_of rows_of found text_of page.next_page page.slots rows.number_of_bytes redone damage c.chain c.whole_chain y.lying_on y.lying w.is_page w.next_of r.placed_on r.set_on r.reader denoted stored database_of header_of header_bytes name_bytes name_of is_database e.suits_spec e.is_entry e.entry_bytes e.fields_in e.entry_in e.entry_of k.is_column k.column_bytes k.column_in k.column_of p.is_part p.part_bytes p.part_in p.part_of listed catalogue_in t.are_cut t.joined s.entry_at s.entry_is s.attrs_of s.relation_of s.index_of s.view_of s.numbered_of s.columns_stand s.part_stands s.parts_stand s.relations_of s.indexes_of s.views_of s.rules_of s.permits_of s.spelled t.tree_of t.tree_bytes reads_whole items_read list spelt short number16 number32 number64 flag option name chars arith_op cmp_op agg_op rel_key domain kind permit rule trees
permits = record { as_made = refl; in_the_other_order = refl; no_tree = refl; another_number = refl; no_first_part = refl; a_sort_of_no_tree = refl; a_chain_cut_short = refl; a_chain_that_circles = refl; a_row_twice = refl }

pub long_view : Tried.LongView
unfolding laid names_what_is_there adds_what_is_new lists_once is_name is_text is_chars aggregates assigned catalogue_at constant_text unescaped kind_of attribute_kind constant_kind number_kind operated_kind joined_kind is_text_kind kinds_fit comparable matches items fits_items term_aggregates qual_aggregates may covers permitted level_of term_size qual_size measure_of query_size variables expanded_variables range_at info_at rows_given some_lacks val holds attribute_value opposite_value value_without_sign operated_values joined_values compared_values matched_value values_of rows_of found text_of page.next_page page.slots rows.number_of_bytes redone damage c.chain c.whole_chain y.lying_on y.lying w.is_page w.next_of r.placed_on r.set_on r.reader denoted stored database_of header_of header_bytes name_bytes name_of is_database e.suits_spec e.is_entry e.entry_bytes e.fields_in e.entry_in e.entry_of k.is_column k.column_bytes k.column_in k.column_of p.is_part p.part_bytes p.part_in p.part_of listed catalogue_in t.are_cut t.joined s.entry_at s.entry_is s.attrs_of s.relation_of s.index_of s.view_of s.numbered_of s.columns_stand s.part_stands s.parts_stand s.relations_of s.indexes_of s.views_of s.rules_of s.permits_of s.spelled t.tree_of t.tree_bytes reads_whole items_read list spelt short number16 number32 number64 flag option name chars arith_op cmp_op agg_op rel_key domain kind permit rule trees
long_view = record { as_made = refl; whole_tree = refl; no_second_part = refl; a_place_left_out = refl; a_byte_of_the_tree = refl; a_tree_of_a_relation = refl }
