-- Computed.
use Rattle.std.proofs.Common.{refl}
use Rattle.std.specs.List.Sorted.{IsStrictlySortedBy}
use Rattle.calculus.specs.Change.{laid, names_what_is_there, adds_what_is_new, lists_once}
use Rattle.calculus.specs.Name.{is_name}
use Rattle.calculus.specs.Text.{is_text}
use Rattle.calculus.specs.Chars.{is_chars}
use Rattle.calculus.specs.Aggregate.{aggregates}
use Rattle.calculus.specs.Assignments.{assigned}
use Rattle.calculus.specs.Catalogue.{catalogue_at}
use Rattle.calculus.specs.Constant.{constant_text, unescaped}
use Rattle.calculus.specs.Kinds.{kind_of, attribute_kind, constant_kind, number_kind, operated_kind, joined_kind, is_text_kind, kinds_fit, comparable}
use Rattle.calculus.specs.Pattern.{matches, items, fits_items}
use Rattle.calculus.specs.QueryParts.{term_aggregates, qual_aggregates}
use Rattle.calculus.specs.Rights.{may, covers, permitted}
use Rattle.calculus.specs.Sizes.{level_of, term_size, qual_size, measure_of, query_size, variables, expanded_variables}
use Rattle.calculus.specs.Stored.{range_at, info_at}
use Rattle.calculus.specs.Targets.{rows_given, some_lacks}
use Rattle.calculus.specs.Term.{val, holds, attribute_value, opposite_value, value_without_sign, operated_values, joined_values, compared_values, matched_value, values_of}
use Rattle.calculus.specs.VariableRows.{rows_of}
use Rattle.calculus.specs.Finding.{found}
use Rattle.calculus_examples.specs.Changes.{Outcomes, Lawful}

pub outcomes : Outcomes
unfolding laid names_what_is_there adds_what_is_new lists_once is_name is_text is_chars aggregates assigned catalogue_at constant_text unescaped kind_of attribute_kind constant_kind number_kind operated_kind joined_kind is_text_kind kinds_fit comparable matches items fits_items term_aggregates qual_aggregates may covers permitted level_of term_size qual_size measure_of query_size variables expanded_variables range_at info_at rows_given some_lacks val holds attribute_value opposite_value value_without_sign operated_values joined_values compared_values matched_value values_of rows_of found
outcomes = record { a_structure_takes_the_indexes = refl; a_permit_in_its_place = refl; all_goes_with_a_relation = refl; rows_stay_a_set = refl; an_index_is_found_by_nobody = refl; its_relation_is = refl; a_catalogue_is_found_last = refl }

pub lawful : Lawful
unfolding laid names_what_is_there adds_what_is_new lists_once is_name is_text is_chars aggregates assigned catalogue_at constant_text unescaped kind_of attribute_kind constant_kind number_kind operated_kind joined_kind is_text_kind kinds_fit comparable matches items fits_items term_aggregates qual_aggregates may covers permitted level_of term_size qual_size measure_of query_size variables expanded_variables range_at info_at rows_given some_lacks val holds attribute_value opposite_value value_without_sign operated_values joined_values compared_values matched_value values_of rows_of found IsStrictlySortedBy
lawful = record {
  is_one = record { dba_is_named = refl; keys_are_named = refl; relations_ascend = (tt, tt); indexes_ascend = (tt, tt); views_ascend = tt; rules_ascend = (tt, tt); permits_ascend = ((refl, tt), (tt, tt)); keys_differ = refl; structures_stand = refl; relation_attrs_stand = refl; relations_are_stored = refl; rows_ascend = ((tt, tt), tt); rows_fit = refl; indexes_stand = refl; view_infos_stand = refl; view_attrs_stand = refl; view_attrs_are_targets = refl; views_name_what_is_there = refl; views_have_levels = refl; view_queries_stand = refl; rules_stand = refl; permits_stand = refl; few_entries = refl; few_rows = refl; few_listed_variables = refl; few_variables = refl; few_expanded_variables = refl; small_views = refl; storable_views = refl; storable_rules = refl; storable_permits = refl; storable_lists = refl; few_rules = refl; few_permits = refl; small_rule_numbers = refl; small_permit_numbers = refl };
  a_structure = record { names_are_there = refl; additions_are_new = refl; nothing_is_listed_twice = refl; leaves_a_database = record { dba_is_named = refl; keys_are_named = refl; relations_ascend = (tt, tt); indexes_ascend = tt; views_ascend = tt; rules_ascend = (tt, tt); permits_ascend = ((refl, tt), (tt, tt)); keys_differ = refl; structures_stand = refl; relation_attrs_stand = refl; relations_are_stored = refl; rows_ascend = ((tt, tt), tt); rows_fit = refl; indexes_stand = refl; view_infos_stand = refl; view_attrs_stand = refl; view_attrs_are_targets = refl; views_name_what_is_there = refl; views_have_levels = refl; view_queries_stand = refl; rules_stand = refl; permits_stand = refl; few_entries = refl; few_rows = refl; few_listed_variables = refl; few_variables = refl; few_expanded_variables = refl; small_views = refl; storable_views = refl; storable_rules = refl; storable_permits = refl; storable_lists = refl; few_rules = refl; few_permits = refl; small_rule_numbers = refl; small_permit_numbers = refl } };
  a_new_permit = record { names_are_there = refl; additions_are_new = refl; nothing_is_listed_twice = refl; leaves_a_database = record { dba_is_named = refl; keys_are_named = refl; relations_ascend = (tt, tt); indexes_ascend = (tt, tt); views_ascend = tt; rules_ascend = (tt, tt); permits_ascend = ((refl, (refl, tt)), ((refl, tt), (tt, tt))); keys_differ = refl; structures_stand = refl; relation_attrs_stand = refl; relations_are_stored = refl; rows_ascend = ((tt, tt), tt); rows_fit = refl; indexes_stand = refl; view_infos_stand = refl; view_attrs_stand = refl; view_attrs_are_targets = refl; views_name_what_is_there = refl; views_have_levels = refl; view_queries_stand = refl; rules_stand = refl; permits_stand = refl; few_entries = refl; few_rows = refl; few_listed_variables = refl; few_variables = refl; few_expanded_variables = refl; small_views = refl; storable_views = refl; storable_rules = refl; storable_permits = refl; storable_lists = refl; few_rules = refl; few_permits = refl; small_rule_numbers = refl; small_permit_numbers = refl } };
  a_permit_that_is_there = refl;
  a_permit_that_is_not_there = refl;
  a_number_twice = refl;
  the_key_of_an_index = refl;
  a_row_that_is_there = refl;
  a_row_that_does_not_fit = refl;
}
