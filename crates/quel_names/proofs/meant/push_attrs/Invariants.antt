use Rattle.std.proofs.Common.{◌≡◌, ◌++◌, flat_map, map, take}
use Rattle.quel_check.specs.Seen.{seen}
use Rattle.quel_names.specs.Roles.{meant_by}
use Rattle.quel_names.proofs.meant.push_attrs.Given as goal

abbrev pub invariant-loop-attr : goal.invariant-loop-attr
invariant-loop-attr l = map seen l.mentions.items ≡ map seen l.initial.mentions.items ++ flat_map (λ a. meant_by l.role a.name) (take l.attr-index l.attrs)
