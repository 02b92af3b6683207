-- Texts and patterns.
use Rattle.calculus.specs.Pattern.{matches}
use Rattle.std.specs.Prelude.{◌≡◌, true, false, [], ◌∷◌, ◌++◌, codes}

-- what matches, and what doesn't
pub record Matching : Type 0 where
  pub any_text_and_any_byte : matches (codes "s*h?") (codes "smithy") ≡ true
  pub in_a_range : matches (codes "[a-c]x") (codes "bx") ≡ true
  pub outside_a_range : matches (codes "[a-c]x") (codes "dx") ≡ false
  pub an_escaped_star : matches (92 ∷ codes "*") (codes "*") ≡ true
  pub an_escaped_star_is_no_star : matches (92 ∷ codes "*") (codes "a") ≡ false
  pub an_open_bracket : matches (codes "[abc") (codes "[abc") ≡ true
  pub an_empty_class : matches (codes "[]") (codes "a") ≡ false
  pub empty_and_empty : matches [] [] ≡ true
  pub empty_and_a_byte : matches [] (codes "a") ≡ false
  pub a_range_from_a_dash : matches (codes "[--0]") (codes ".") ≡ true
  pub a_second_dash : matches (codes "[a-b-c]") (codes "-") ≡ true
  pub blanks_at_the_end : matches (codes "a  ") (codes "a") ≡ true
  pub an_escaped_bracket_in_a_class : matches (codes "[a" ++ 92 ∷ codes "]b]") (codes "]") ≡ true
