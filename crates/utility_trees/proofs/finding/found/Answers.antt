use Rattle.std.proofs.Common.{◌≡◌, Some, sym, ◌∙◌}
use Rattle.calculus.specs.Finding.{found}
use Rattle.utility_trees.proofs.Meant.{few_found}
use Rattle.utility_trees.proofs.finding.found.Goals as goal

pub returns-in-Some-clause-known : goal.returns-in-Some-clause-known
returns-in-Some-clause-known g c = λ db h.
    let is : found db c.args.user.now c.args.name.now ≡ Some c.in-Some.info = sym (c.in_ok-info.ensures.known db h) ∙ c.in-Some.is in
    (is, few_found db (g.B.Base.lawful c.args.base.now db h) c.args.user.now c.args.name.now c.in-Some.info is)
