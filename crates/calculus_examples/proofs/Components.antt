-- Computed.
use Rattle.std.proofs.Common.{refl}
use Rattle.calculus.specs.Aggregate.{aggregates}
use Rattle.calculus.specs.Answer.{answer, lacks}
use Rattle.calculus.specs.Assignments.{assigned}
use Rattle.calculus.specs.Catalogue.{catalogue_at}
use Rattle.calculus.specs.Constant.{constant_text, unescaped}
use Rattle.calculus.specs.Pattern.{matches, items, fits_items}
use Rattle.calculus.specs.Rights.{may, covers}
use Rattle.calculus.specs.Stored.{range_at, info_at}
use Rattle.calculus.specs.Targets.{rows_given, some_lacks}
use Rattle.calculus.specs.Term.{val, holds, attribute_value, opposite_value, value_without_sign, operated_values, joined_values, compared_values, matched_value, values_of}
use Rattle.calculus.specs.VariableRows.{rows_of}
use Rattle.calculus_examples.specs.Components.{Answers}

pub answers : Answers
unfolding val holds attribute_value opposite_value value_without_sign operated_values joined_values compared_values matched_value values_of constant_text unescaped matches items fits_items answer lacks rows_given some_lacks assigned rows_of aggregates range_at info_at catalogue_at may covers
answers = record { a_part_without_rows_empties_all = refl; and_then_nothing_lacks = refl; with_rows_the_target_lacks = refl; only_qualifying_assignments_count = refl; and_give_the_answer = refl; neither_part_alone = refl }
