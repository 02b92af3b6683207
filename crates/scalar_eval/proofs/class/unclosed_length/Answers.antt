use Rattle.std.proofs.Common.{arith}
use Rattle.scalar_eval.proofs.Unclosed.{none_closes_before}
use Rattle.scalar_eval.proofs.class.unclosed_length.Goals as goal

pub classes-preserved : goal.classes-preserved
classes-preserved c = λ unclosed within h.
    c.classes.invariant unclosed (omega (arith, within, c.in-Some.ensures.shorter))
    (none_closes_before unclosed c.classes.rest.now _ _ c.in-Some.ensures.parts within h)
