use Rattle.std.proofs.Common.{IsTrue, take}
use Rattle.std.specs.List.{list_all}
use Rattle.update_laws.specs.Walked.{term_is_walked, target_is_walked}
use Rattle.update_laws.proofs.constants.+walking.Given as goal

abbrev pub invariant-walk_targets-loop-target : goal.invariant-walk_targets-loop-target
invariant-walk_targets-loop-target l = IsTrue (list_all (λ t. target_is_walked t.name t.term) (take l.target-index l.targets))

abbrev pub invariant-walk_terms-loop-term : goal.invariant-walk_terms-loop-term
invariant-walk_terms-loop-term l = IsTrue (list_all term_is_walked (take l.term-index l.terms))
