-- Computed.
use Rattle.std.proofs.Common.{refl}
use Rattle.calculus.specs.Constant.{unescaped}
use Rattle.calculus.specs.Pattern.{matches, items, fits_items}
use Rattle.calculus_examples.specs.Patterns.{Matching}

pub matching : Matching
unfolding matches items fits_items unescaped
matching = record { any_text_and_any_byte = refl; in_a_range = refl; outside_a_range = refl; an_escaped_star = refl; an_escaped_star_is_no_star = refl; an_open_bracket = refl; an_empty_class = refl; empty_and_empty = refl; empty_and_a_byte = refl; a_range_from_a_dash = refl; a_second_dash = refl; blanks_at_the_end = refl; an_escaped_bracket_in_a_class = refl }
