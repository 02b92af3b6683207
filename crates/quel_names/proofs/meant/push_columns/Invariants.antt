use Rattle.std.proofs.Common.{◌≡◌, ◌++◌, flat_map, map, take}
use Rattle.quel_check.specs.Seen.{seen}
use Rattle.quel_names.specs.Roles.{meant_by}
use Rattle.quel_names.proofs.meant.push_columns.Given as goal

abbrev pub invariant-loop-column : goal.invariant-loop-column
invariant-loop-column l = map seen l.mentions.items ≡ map seen l.initial.mentions.items ++ flat_map (λ c. meant_by l.role c.0) (take l.column-index l.columns)
