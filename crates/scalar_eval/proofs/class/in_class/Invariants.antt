use Rattle.std.proofs.Common.{◌≡◌, length}
use Rattle.calculus.specs.Constant.{unescaped}
use Rattle.calculus.specs.Pattern.{ranges, in_class}
use Rattle.scalar_eval.proofs.class.in_class.Given as goal

abbrev pub invariant-members : goal.invariant-members
invariant-members l = in_class (ranges (unescaped l.rest)) l.byte ≡ in_class (ranges (unescaped l.class)) l.byte

abbrev pub decreases-members : goal.decreases-members
decreases-members l = length l.rest
