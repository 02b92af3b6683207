-- Texts whose tokens are at the edge of what a token may be.
use Rattle.std.specs.Prelude.{ℕ, List, [], ◌∷◌, ◌++◌, None, Some, codes}
use Rattle.calculus.specs.declared.statement.Item.TheVariants as items
use Rattle.calculus.specs.declared.statement.Qual.TheVariants as quals
use Rattle.calculus.specs.declared.statement.Statement.{Statement}
use Rattle.calculus.specs.declared.statement.Statement.TheVariants as statements
use Rattle.calculus.specs.declared.statement.Term.{Term}
use Rattle.calculus.specs.declared.statement.Term.TheVariants as terms
use Rattle.quel_grammar.specs.Next.{Next}
use Rattle.quel_grammar.specs.Next.Next.{Nothing, Read, Syntax}
use Rattle.quel_examples.specs.Words.{int}
use Rattle.quel_examples.specs.Bounds.{repeated}

-- retrieve (x = "..") with these bytes between the quotes, which begin behind byte 14
abbrev with_text : List ℕ → List ℕ
with_text between = codes "retrieve (x = " ++ (34 ∷ between ++ (34 ∷ codes ")"))

-- the statement that prints x, which is this term
abbrev shows : Term → Statement
shows t = statements.Retrieve None (items.Set (codes "x") t ∷ []) quals.True []

-- a, a backslash and a quote
abbrev escaped : List ℕ
escaped = 97 ∷ 92 ∷ 34 ∷ []

-- what is read, and where texts are refused
pub record Tokens (Is : List ℕ → ℕ → Next → Type 0) : Type 0 where
  pub a_backslash_takes_the_quote : Is (with_text escaped) 0 (Read (shows (terms.Chars escaped)) 20)
  pub no_byte : Is (with_text []) 0 (Read (shows (terms.Chars [])) 17)
  pub text_of_255_bytes : Is (with_text (repeated 255 (codes "a"))) 0 (Read (shows (terms.Chars (repeated 255 (codes "a")))) 272)
  pub text_of_256_bytes : Is (with_text (repeated 256 (codes "a"))) 0 (Syntax 14)
  pub text_with_a_newline : Is (with_text (10 ∷ [])) 0 (Syntax 14)
  pub text_that_is_open : Is (codes "retrieve (x = " ++ (34 ∷ codes "a)")) 0 (Syntax 14)
  pub name_of_12_bytes : Is (codes "help abcdefghijkl") 0 (Read (statements.Help (Some (codes "abcdefghijkl"))) 17)
  pub greatest_number : Is (codes "retrieve (x = 09223372036854775807)") 0 (Read (shows (int 9223372036854775807)) 35)
  pub no_name_begins_with_a_digit : Is (codes "help 9a") 0 (Read (statements.Help None) 4)
  pub a_comment_is_white : Is (codes "help/* one **/") 4 Nothing
  pub a_byte_outside : Is (128 ∷ codes "help") 0 (Syntax 0)
