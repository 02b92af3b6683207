-- Computed.
use Rattle.std.proofs.Common.{refl}
use Rattle.calculus.specs.Aggregate.{aggregates}
use Rattle.calculus.specs.Answer.{answer, lacks}
use Rattle.calculus.specs.Assignments.{assigned, update_assigned}
use Rattle.calculus.specs.Catalogue.{catalogue_at}
use Rattle.calculus.specs.Constant.{constant_text, unescaped}
use Rattle.calculus.specs.Kinds.{kind_of, attribute_kind, constant_kind, number_kind, operated_kind, joined_kind, is_text_kind, kinds_fit, comparable}
use Rattle.calculus.specs.Pairs.{pairs, ruled}
use Rattle.calculus.specs.Pattern.{matches, items, fits_items}
use Rattle.calculus.specs.Permission.{query_permitted, update_permitted, readable}
use Rattle.calculus.specs.QueryParts.{term_aggregates, qual_aggregates}
use Rattle.calculus.specs.Replacement.{updated, after, contended}
use Rattle.calculus.specs.Rights.{may, covers, permitted}
use Rattle.calculus.specs.Stored.{range_at, info_at}
use Rattle.calculus.specs.Targets.{rows_given, some_lacks}
use Rattle.calculus.specs.Term.{val, holds, attribute_value, opposite_value, value_without_sign, operated_values, joined_values, compared_values, matched_value, values_of}
use Rattle.calculus.specs.VariableRows.{rows_of}
use Rattle.calculus_examples.specs.Permits.{Rights, Cuts}

pub rights : Rights
unfolding val holds attribute_value opposite_value value_without_sign operated_values joined_values compared_values matched_value values_of constant_text unescaped matches items fits_items kind_of attribute_kind constant_kind number_kind operated_kind joined_kind is_text_kind kinds_fit comparable answer lacks rows_given some_lacks assigned rows_of aggregates range_at info_at catalogue_at may covers query_permitted update_permitted readable permitted term_aggregates qual_aggregates
rights = record { no_permit_for_both = refl; a_permit_for_names = refl; names_are_read = refl; an_aggregate_reads_what_it_names = refl; no_permit_to_delete = refl; the_owner_may = refl; nobody_in_particular_may = refl }

pub cuts : Cuts
unfolding val holds attribute_value opposite_value value_without_sign operated_values joined_values compared_values matched_value values_of constant_text unescaped matches items fits_items kind_of attribute_kind constant_kind number_kind operated_kind joined_kind is_text_kind kinds_fit comparable answer lacks rows_given some_lacks assigned rows_of aggregates range_at info_at catalogue_at may covers query_permitted update_permitted readable permitted term_aggregates qual_aggregates updated pairs ruled after contended update_assigned
cuts = record { below_five = refl; not_above = refl; nobody_in_particular = refl; only_old_rows_below_five = refl; both_attributes_need_a_permit = refl }
