use Rattle.std.proofs.Common.{◌≡◌, ◌++◌, flat_map, map, take}
use Rattle.quel_meaning.specs.WrittenParts.{outer_vars}
use Rattle.quel_check.proofs.names.+vars.Given as goal

abbrev pub invariant-push_vars_of_terms-loop-term : goal.invariant-push_vars_of_terms-loop-term
invariant-push_vars_of_terms-loop-term l = map (λ n. n.now) l.names.items ≡ map (λ n. n.now) l.initial.names.items ++ flat_map outer_vars (take l.term-index l.terms)
