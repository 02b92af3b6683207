use Rattle.std.proofs.Common.{◌∙◌, ap, arith, ◌+◌, max, nat_lt}
use Rattle.calculus.specs.QueryParts.{targets_of, qual_of}
use Rattle.view_sizes.specs.Sized.{greatest_depth, qual_depth}
use Rattle.view_sizes.proofs.Stopped.{stopped_lt}
use Rattle.view_sizes.proofs.QueryDepths.{query_alone}
use Rattle.quel_refusals.proofs.viewed.is_too_deep.Goals as goal

pub returns : goal.returns
returns c = λ none.
    ap (nat_lt 3000) c.query_depth.ensures ∙ stopped_lt 3000 (1 + max (greatest_depth (targets_of c.args.q.now)) (qual_depth (qual_of c.args.q.now))) (omega arith)
    ∙ ap (nat_lt 3000) (query_alone c.args.q.now none)
