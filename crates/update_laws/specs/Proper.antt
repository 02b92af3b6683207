-- What the values of rows are in the language's sense.
use Rattle.std.specs.Prelude.{Bool, true}
use Rattle.std.specs.List.{list_all}
use Rattle.calculus.specs.declared.value.Value.{Value}
use Rattle.calculus.specs.declared.value.Value.TheVariants as value
use Rattle.calculus.specs.Text.{is_text}
use Rattle.calculus.specs.Rows.{Row}
use Rattle.calculus.specs.Term.{Env}

-- a number, or a text in the language's sense
abbrev pub is_proper : Value → Bool
is_proper (value.Int n) = true
is_proper (value.Text t) = is_text t

-- each value of the row is one
abbrev pub row_is_proper : Row → Bool
row_is_proper row = list_all is_proper row

-- each value of each row is one
abbrev pub rows_are_proper : Env → Bool
rows_are_proper e = list_all row_is_proper e
