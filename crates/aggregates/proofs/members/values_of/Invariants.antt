use Rattle.std.proofs.Common.{◌≡◌, drop}
use Rattle.calculus.specs.Term.{values_of}
use Rattle.scalar_eval.proofs.Groups.{values_before}
use Rattle.aggregates.proofs.members.values_of.Given as goal

abbrev pub invariant-loop-term : goal.invariant-loop-term
invariant-loop-term l = values_before l.values.items (values_of (drop l.term-index l.terms) l.at) ≡ values_of l.terms l.at
