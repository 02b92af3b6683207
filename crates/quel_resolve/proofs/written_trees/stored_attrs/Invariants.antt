use Rattle.std.proofs.Common.{◌≡◌, map, take}
use Rattle.quel_meaning.specs.Resolved.{stored_attr}
use Rattle.quel_resolve.proofs.written_trees.stored_attrs.Given as goal

abbrev pub invariant-loop-name : goal.invariant-loop-name
invariant-loop-name l = l.stored.items ≡ map stored_attr (take l.name-index l.attrs)
