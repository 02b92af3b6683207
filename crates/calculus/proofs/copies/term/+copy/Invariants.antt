use Rattle.std.proofs.Common.{◌≡◌, take}
use Rattle.calculus.proofs.copies.term.+copy.Given as goal

abbrev pub invariant-copy_terms-loop-term : goal.invariant-copy_terms-loop-term
invariant-copy_terms-loop-term l = l.copies.items ≡ take l.term-index l.terms
