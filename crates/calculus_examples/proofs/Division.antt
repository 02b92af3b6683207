-- Computed.
use Rattle.std.proofs.Common.{refl}
use Rattle.calculus.specs.Aggregate.{aggregates}
use Rattle.calculus.specs.Answer.{answer, lacks}
use Rattle.calculus.specs.Assignments.{assigned}
use Rattle.calculus.specs.Catalogue.{catalogue_at}
use Rattle.calculus.specs.Constant.{constant_text, unescaped}
use Rattle.calculus.specs.Pattern.{matches, items, fits_items}
use Rattle.calculus.specs.Rights.{may, covers}
use Rattle.calculus.specs.Stored.{range_at, info_at}
use Rattle.calculus.specs.Targets.{rows_given, some_lacks}
use Rattle.calculus.specs.Term.{val, holds, attribute_value, opposite_value, value_without_sign, operated_values, joined_values, compared_values, matched_value, values_of}
use Rattle.calculus.specs.VariableRows.{rows_of}
use Rattle.calculus_examples.specs.Division.{Answers}

pub answers : Answers
unfolding val holds attribute_value opposite_value value_without_sign operated_values joined_values compared_values matched_value values_of constant_text unescaped matches items fits_items answer lacks rows_given some_lacks assigned rows_of aggregates range_at info_at catalogue_at may covers
answers = record { zero_is_no_divisor = refl; a_target_lacks = refl; nothing_over_nothing = refl }
