use Rattle.std.proofs.Common.{◌≡◌, drop}
use Rattle.calculus.specs.Term.{values_of}
use Rattle.scalar_eval.proofs.Groups.{values_before}
use Rattle.scalar_eval.proofs.values.+value.Given as goal

abbrev pub invariant-values_of-loop-term : goal.invariant-values_of-loop-term
invariant-values_of-loop-term l = values_before l.values.items (values_of (drop l.term-index l.terms) l.rows) ≡ values_of l.terms l.rows
