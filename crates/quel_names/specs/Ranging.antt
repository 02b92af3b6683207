-- What variables range over.
use Rattle.std.specs.Prelude.{◌≡◌, ℕ, Bool, true, false, List, map, is_some, Option, Some, None}
use Rattle.std.specs.List.{list_all}
use Rattle.calculus.specs.declared.schema.RelInfo.{RelInfo}
use Rattle.calculus.specs.Structures.{is_index}
use Rattle.quel_meaning.specs.Scope.{Scope, ranged}

-- what may be ranged over of what stands under a key: all but an index
abbrev pub but_index : Option RelInfo → Option RelInfo
but_index None = None
but_index (Some info) = elim (is_index info.spec) [ true ↦ None | false ↦ Some info ]

-- each of these variables ranges over something
abbrev pub each_ranges : Scope → List (List ℕ) → Bool
each_ranges s vars = list_all (λ var. is_some (ranged s var)) vars

-- each of these variables ranges over what stands beside it; or, where nothing does, one of them ranges over nothing
abbrev pub AreOver : Scope → List (List ℕ) → Option (List RelInfo) → Type 0
AreOver s vars None = each_ranges s vars ≡ false
AreOver s vars (Some infos) = map (ranged s) vars ≡ map Some infos
