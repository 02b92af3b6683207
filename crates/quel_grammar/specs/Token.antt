-- When two tokens are the same.
use Rattle.std.specs.Prelude.{Bool, false, List, ◌==◌}
use denote.Enum.Bare.{sameb}
use Rattle.std.specs.Cmp.Lexicographic.{pointwise}
use Rattle.std.specs.Str.{bytes_eq}
use Rattle.quel_grammar.specs.declared.token.Fixed.{Fixed}
use Rattle.quel_grammar.specs.contracts.token.Fixed.{the_type}
use Rattle.quel_grammar.specs.declared.token.Token.{Token}
use Rattle.quel_grammar.specs.declared.token.Token.TheVariants as tokens

-- two reserved words or symbols are the same, as `==` of the type says
abbrev pub same_fixed : Fixed → Fixed → Bool
same_fixed a b = sameb the_type a b

-- two tokens are the same
abbrev pub same_token : Token → Token → Bool
same_token (tokens.Name a) (tokens.Name b) = bytes_eq a b
same_token (tokens.Int a) (tokens.Int b) = a == b
same_token (tokens.Text a) (tokens.Text b) = bytes_eq a b
same_token (tokens.Fixed a) (tokens.Fixed b) = same_fixed a b
same_token _ _ = false

-- two lists of tokens are the same
abbrev pub same_tokens : List Token → List Token → Bool
same_tokens = pointwise same_token
