-- What is known of a base relation.
use Rattle.std.specs.Prelude.{true, false, Option, Some, None}
use Rattle.calculus.specs.declared.schema.RelInfo.{RelInfo}
use Rattle.calculus.specs.Structures.{is_structure}

-- what is known, where it is kept as a base relation is
abbrev pub kept_info : Option RelInfo → Option RelInfo
kept_info None = None
kept_info (Some info) = elim (is_structure info.spec) [ true ↦ Some info | false ↦ None ]
