use Rattle.std.proofs.Common.{◌∙◌, ap, arith}
use Rattle.ovqp.proofs.Parts.{qual_is, targets_is}
use Rattle.view_sizes.specs.Sized.{greatest_depth, qual_depth}
use Rattle.view_sizes.proofs.depths.query_depth.Goals as goal

pub returns : goal.returns
returns c =
    let e = ap greatest_depth (c.items.ensures ∙ targets_is c.args.query.now) in
    let f = ap qual_depth (qual_is c.args.query.now) in
    omega (arith, c.above.ensures, c.targets_depth.ensures, c.qual_depth.ensures, e, f)
