use Rattle.std.proofs.Common.{◌∙◌, ap, arith, ◌+◌, max, nat_le}
use Rattle.calculus.specs.QueryParts.{targets_of, qual_of}
use Rattle.calculus.specs.Spelled.{query_is_spelled}
use Rattle.calculus.specs.TreeLevels.{query_levels}
use Rattle.view_sizes.specs.Sized.{greatest_depth, qual_depth}
use Rattle.view_sizes.proofs.Stopped.{stopped_le}
use Rattle.change_check.proofs.Parts.{also}
use Rattle.view_sizes.proofs.QueryDepths.{query_alone}
use Rattle.change_check.proofs.views.can_be_stored.Goals as goal

pub returns : goal.returns
returns c = λ none.
    ap (λ n. nat_le n 3000) c.query_depth.ensures
    ∙ stopped_le (1 + max (greatest_depth (targets_of c.args.query.now)) (qual_depth (qual_of c.args.query.now))) 3000 (omega arith) ∙ ap (λ n. nat_le n 3000) (query_alone c.args.query.now none)
    ∙ also (nat_le (query_levels c.args.query.now) 3000) (query_is_spelled c.args.query.now) c.query_is_spelled.ensures
