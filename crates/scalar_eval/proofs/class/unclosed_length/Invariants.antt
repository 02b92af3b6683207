use Rattle.std.proofs.Common.{ℕ, ◌≤◌, length}
use Rattle.calculus.specs.Constant.{unescaped}
use Rattle.scalar_eval.specs.Walk.{NoneCloses}
use Rattle.scalar_eval.proofs.class.unclosed_length.Given as goal

abbrev pub invariant-classes : goal.invariant-classes
invariant-classes l = (unclosed : ℕ) → unclosed ≤ length l.rest → NoneCloses unclosed (unescaped l.rest) → NoneCloses unclosed (unescaped l.pattern)

abbrev pub decreases-classes : goal.decreases-classes
decreases-classes l = length l.rest
