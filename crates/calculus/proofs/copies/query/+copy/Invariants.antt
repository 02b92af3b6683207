use Rattle.std.proofs.Common.{◌≡◌, take}
use Rattle.calculus.proofs.copies.query.+copy.Given as goal

abbrev pub invariant-copy_terms-loop-term : goal.invariant-copy_terms-loop-term
invariant-copy_terms-loop-term l = l.copies.items ≡ take l.term-index l.terms

abbrev pub invariant-copy_targets-loop-target : goal.invariant-copy_targets-loop-target
invariant-copy_targets-loop-target l = l.copies.items ≡ take l.target-index l.targets
