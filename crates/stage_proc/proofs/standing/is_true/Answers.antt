use Rattle.std.proofs.Common.{ap, ◌∙◌}
use Rattle.calculus.specs.Term.{holds, no_aggs}
use Rattle.calculus.proofs.Val.{holds_true}
use Rattle.stage_proc.proofs.standing.is_true.Goals as goal

pub returns-in-True : goal.returns-in-True
returns-in-True c = λ _ e. ap (λ q. holds no_aggs q e) c.in-True.is ∙ holds_true no_aggs e
