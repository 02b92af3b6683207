-- Where tokens begin, and on which lines.
use Rattle.std.specs.Prelude.{◌≡◌, List, ◌∷◌, ◌++◌, ℕ, codes}
use Rattle.quel_grammar.specs.Next.{first_offset, line_at}

-- two statements on the lines 2 and 4, with a comment that holds a newline before the first one
abbrev two_statements : List ℕ
two_statements = codes "/* one" ++ (10 ∷ codes "*/ help" ++ (10 ∷ (10 ∷ codes "print e")))

-- places and lines
pub record Places : Type 0 where
  pub first_token : first_offset two_statements 0 ≡ 10
  pub its_line : line_at two_statements 10 ≡ 2
  pub second_statement : first_offset two_statements 14 ≡ 16
  pub its_line_too : line_at two_statements 16 ≡ 4
  pub a_bad_byte : first_offset (codes " #") 0 ≡ 1
  pub nothing : first_offset (codes "  ") 0 ≡ 0
