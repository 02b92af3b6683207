-- Computed.
use Rattle.std.proofs.Common.{refl}
use Rattle.std.specs.List.Sorted.{IsStrictlySortedBy}
use Rattle.calculus.specs.Change.{laid, names_what_is_there, adds_what_is_new, lists_once}
use Rattle.calculus.specs.Name.{is_name}
use Rattle.calculus.specs.Text.{is_text}
use Rattle.calculus.specs.Chars.{is_chars}
use Rattle.calculus.specs.Aggregate.{aggregates}
use Rattle.calculus.specs.Answer.{answer, lacks}
use Rattle.calculus.specs.Assignments.{assigned}
use Rattle.calculus.specs.Catalogue.{catalogue_at}
use Rattle.calculus.specs.Constant.{constant_text, unescaped}
use Rattle.calculus.specs.Kinds.{kind_of, attribute_kind, constant_kind, number_kind, operated_kind, joined_kind, is_text_kind, kinds_fit, comparable}
use Rattle.calculus.specs.Pattern.{matches, items, fits_items}
use Rattle.calculus.specs.Permission.{query_permitted, update_permitted, readable}
use Rattle.calculus.specs.QueryParts.{term_aggregates, qual_aggregates}
use Rattle.calculus.specs.Reads.{reads_of, query_reads}
use Rattle.calculus.specs.Rights.{may, covers, permitted}
use Rattle.calculus.specs.Sizes.{level_of, term_size, qual_size, measure_of, query_size, variables, expanded_variables}
use Rattle.calculus.specs.Stored.{range_at, info_at}
use Rattle.calculus.specs.Targets.{rows_given, some_lacks}
use Rattle.calculus.specs.Term.{val, holds, attribute_value, opposite_value, value_without_sign, operated_values, joined_values, compared_values, matched_value, values_of}
use Rattle.calculus.specs.VariableRows.{rows_of}
use Rattle.calculus_examples.specs.Views.{Shown, Lawful}

pub shown : Shown
unfolding val holds attribute_value opposite_value value_without_sign operated_values joined_values compared_values matched_value values_of constant_text unescaped matches items fits_items kind_of attribute_kind constant_kind number_kind operated_kind joined_kind is_text_kind kinds_fit comparable answer lacks rows_given some_lacks assigned rows_of aggregates range_at info_at catalogue_at may covers level_of term_size qual_size measure_of query_size variables expanded_variables query_permitted update_permitted readable permitted term_aggregates qual_aggregates reads_of query_reads
shown = record { each_name_once = refl; each_dept_once = refl; nothing_without_a_permit = refl; the_catalogue_has_them = refl; sells_has_two_variables = refl; depts_has_one = refl; level_one = refl; size_four = refl; read_through_a_view = refl; read_by_an_aggregate = refl; the_catalogue_is_read = refl }

pub lawful : Lawful
unfolding val holds attribute_value opposite_value value_without_sign operated_values joined_values compared_values matched_value values_of constant_text unescaped matches items fits_items kind_of attribute_kind constant_kind number_kind operated_kind joined_kind is_text_kind kinds_fit comparable answer lacks rows_given some_lacks assigned rows_of aggregates range_at info_at catalogue_at may covers level_of term_size qual_size measure_of query_size variables expanded_variables query_permitted update_permitted readable permitted term_aggregates qual_aggregates laid names_what_is_there adds_what_is_new lists_once is_name is_text is_chars IsStrictlySortedBy
lawful = record {
  is_one = record { dba_is_named = refl; keys_are_named = refl; relations_ascend = ((refl, tt), (tt, tt)); indexes_ascend = tt; views_ascend = ((refl, tt), (tt, tt)); rules_ascend = tt; permits_ascend = tt; keys_differ = refl; structures_stand = refl; relation_attrs_stand = refl; relations_are_stored = refl; rows_ascend = ((tt, tt), (((refl, tt), (tt, tt)), tt)); rows_fit = refl; indexes_stand = refl; view_infos_stand = refl; view_attrs_stand = refl; view_attrs_are_targets = refl; views_name_what_is_there = refl; views_have_levels = refl; view_queries_stand = refl; rules_stand = refl; permits_stand = refl; few_entries = refl; few_rows = refl; few_listed_variables = refl; few_variables = refl; few_expanded_variables = refl; small_views = refl; storable_views = refl; storable_rules = refl; storable_permits = refl; storable_lists = refl; few_rules = refl; few_permits = refl; small_rule_numbers = refl; small_permit_numbers = refl };
  emp_is_named = refl;
  with_its_view_it_goes = record { names_are_there = refl; additions_are_new = refl; nothing_is_listed_twice = refl; leaves_a_database = record { dba_is_named = refl; keys_are_named = refl; relations_ascend = (tt, tt); indexes_ascend = tt; views_ascend = (tt, tt); rules_ascend = tt; permits_ascend = tt; keys_differ = refl; structures_stand = refl; relation_attrs_stand = refl; relations_are_stored = refl; rows_ascend = (((refl, tt), (tt, tt)), tt); rows_fit = refl; indexes_stand = refl; view_infos_stand = refl; view_attrs_stand = refl; view_attrs_are_targets = refl; views_name_what_is_there = refl; views_have_levels = refl; view_queries_stand = refl; rules_stand = refl; permits_stand = refl; few_entries = refl; few_rows = refl; few_listed_variables = refl; few_variables = refl; few_expanded_variables = refl; small_views = refl; storable_views = refl; storable_rules = refl; storable_permits = refl; storable_lists = refl; few_rules = refl; few_permits = refl; small_rule_numbers = refl; small_permit_numbers = refl } };
}
