use Rattle.std.proofs.Common.{◌≡◌, ◌++◌, flat_map, map, take}
use Rattle.quel_check.specs.Seen.{seen}
use Rattle.quel_meaning.specs.Naming.{dotted}
use Rattle.quel_meaning.specs.WrittenParts.{attributes}
use Rattle.quel_check.proofs.mentions.+mentions.Given as goal

abbrev pub invariant-push_terms-loop-term : goal.invariant-push_terms-loop-term
invariant-push_terms-loop-term l = map seen l.mentions.items ≡ map seen l.initial.mentions.items ++ dotted (flat_map attributes (take l.term-index l.terms))
