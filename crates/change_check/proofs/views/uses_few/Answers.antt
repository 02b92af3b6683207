use Rattle.std.proofs.Common.{◌∙◌, ap, arith, length, nat_le}
use Rattle.calculus.specs.Used.{used_vars}
use Rattle.view_sizes.proofs.Stopped.{stopped_le}
use Rattle.view_sizes.proofs.Measuring.{variables_used}
use Rattle.change_check.proofs.views.uses_few.Goals as goal

pub returns : goal.returns
returns c = λ few none.
    ap (λ n. nat_le n 10) (c.used_count.ensures few) ∙ stopped_le (length (used_vars c.args.query.now)) 10 (omega arith) ∙ ap (λ n. nat_le n 10) (variables_used c.args.query.now none)
