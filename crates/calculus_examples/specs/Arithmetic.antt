-- Values of terms without variables.
use Rattle.calculus.specs.Term.{val, no_aggs}
use Rattle.calculus.specs.declared.value.Value.{Value}
use Rattle.calculus_examples.specs.Small.{num}
use Rattle.std.specs.Prelude.{◌≡◌, ℕ, pos, negsuc, [], Option, Some, None}
use Rattle.calculus_examples.specs.Words.{Add, Sub, Div, Pow, Mod, QTerm, Int, neg, abs, operation}

-- the value of a term without variables
abbrev pub value : QTerm → Option Value
value t = val no_aggs t []

-- a numeral
abbrev pub int : ℕ → QTerm
int n = Int (pos n)

-- what the terms give
pub record Values : Type 0 where
  pub a_quotient_is_cut_toward_zero : value (operation Div (neg (int 7)) (int 2)) ≡ Some (num (negsuc 2))
  pub a_remainder_has_the_left_sign : value (operation Mod (neg (int 7)) (int 2)) ≡ Some (num (negsuc 0))
  pub minus_binds_closest : value (operation Pow (neg (int 2)) (int 2)) ≡ Some (num (pos 4))
  pub powers_group_from_the_right : value (operation Pow (int 2) (operation Pow (int 3) (int 2))) ≡ Some (num (pos 512))
  pub no_sign : value (abs (neg (int 5))) ≡ Some (num (pos 5))
  pub past_64_bits : value (operation Add (int 9223372036854775807) (int 1)) ≡ None
  pub a_negative_exponent : value (operation Pow (int 2) (neg (int 1))) ≡ None
  pub the_least_number : value (operation Sub (neg (int 9223372036854775807)) (int 1)) ≡ Some (num (negsuc 9223372036854775807))
  pub the_least_number_has_no_opposite : value (neg (operation Sub (neg (int 9223372036854775807)) (int 1))) ≡ None
  pub zero_to_the_zero : value (operation Pow (int 0) (int 0)) ≡ Some (num (pos 1))
  pub one_to_a_negative : value (operation Pow (int 1) (neg (int 1))) ≡ None
  pub by_zero : value (operation Mod (int 1) (int 0)) ≡ None
