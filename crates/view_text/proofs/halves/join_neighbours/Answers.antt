use Rattle.std.proofs.Common.{◌∙◌, arith}
use Rattle.view_text.specs.Join.{join_by}
use Rattle.view_text.proofs.HalvesForms.{none_paired}
use Rattle.view_text.proofs.halves.join_neighbours.Goals as goal

pub returns : goal.returns
returns c = none_paired (join_by c.args.join) c.loop-first.pairs.items c.loop-first.quals.items (omega (arith, c.in_default.ensures.cases.0)) ∙ c.loop-first.invariant
