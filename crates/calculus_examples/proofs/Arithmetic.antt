-- Computed.
use Rattle.std.proofs.Common.{refl}
use Rattle.calculus.specs.Constant.{constant_text, unescaped}
use Rattle.calculus.specs.Pattern.{matches, items, fits_items}
use Rattle.calculus.specs.Term.{val, holds, attribute_value, opposite_value, value_without_sign, operated_values, joined_values, compared_values, matched_value, values_of}
use Rattle.calculus_examples.specs.Arithmetic.{Values}

pub values : Values
unfolding val holds attribute_value opposite_value value_without_sign operated_values joined_values compared_values matched_value values_of constant_text unescaped matches items fits_items
values = record { a_quotient_is_cut_toward_zero = refl; a_remainder_has_the_left_sign = refl; minus_binds_closest = refl; powers_group_from_the_right = refl; no_sign = refl; past_64_bits = refl; a_negative_exponent = refl; the_least_number = refl; the_least_number_has_no_opposite = refl; zero_to_the_zero = refl; one_to_a_negative = refl; by_zero = refl }
