-- Texts that are refused where they can't go on.
use Rattle.std.specs.Prelude.{ℕ, List, codes}
use Rattle.quel_grammar.specs.Next.{Next}
use Rattle.quel_grammar.specs.Next.Next.{Syntax}

-- what is refused, and where
pub record Refusals (Is : List ℕ → ℕ → Next → Type 0) : Type 0 where
  pub at_the_parenthesis : Is (codes "delete e where )") 0 (Syntax 15)
  pub at_the_end : Is (codes "retrieve (x = 1) sort") 0 (Syntax 21)
  pub at_the_first_token : Is (codes "retreive (x = 1)") 0 (Syntax 0)
  pub at_a_name_of_13_bytes : Is (codes "create abcdefghijklm (a = i1)") 0 (Syntax 7)
  pub at_a_width_of_256 : Is (codes "create g (a = c256)") 0 (Syntax 14)
  pub at_a_reserved_word : Is (codes "destroy permit, x") 0 (Syntax 14)
  pub at_a_number_that_is_too_great : Is (codes "destroy permit r 4294967296") 0 (Syntax 17)
  pub at_an_int_that_is_too_great : Is (codes "retrieve (x = 9223372036854775808)") 0 (Syntax 14)
  pub at_a_name_that_calls_nothing : Is (codes "retrieve (x = f(1))") 0 (Syntax 15)
  pub at_a_comment_that_is_open : Is (codes " /*/ help") 0 (Syntax 1)
  pub behind_a_term_in_parentheses : Is (codes "delete e where (1)") 0 (Syntax 18)
