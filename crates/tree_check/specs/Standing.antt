-- What is known of what stands under a key.
use Rattle.std.specs.Prelude.{Bool, false, Option, Some, None}
use Rattle.calculus.specs.declared.schema.RelInfo.{RelInfo}
use Rattle.calculus.specs.Structures.{is_structure}

-- this is known of what keeps its rows
abbrev pub is_kept_info : Option RelInfo → Bool
is_kept_info None = false
is_kept_info (Some info) = is_structure info.spec
