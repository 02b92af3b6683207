-- What is known of what stands under a key.
use Rattle.std.specs.Prelude.{Bool, false, not, Option, Some, None}
use Rattle.calculus.specs.declared.schema.RelInfo.{RelInfo}
use Rattle.calculus.specs.Structures.{is_index}

-- it is known of what a variable may range over
abbrev pub is_ranged : Option RelInfo → Bool
is_ranged None = false
is_ranged (Some info) = not (is_index info.spec)
