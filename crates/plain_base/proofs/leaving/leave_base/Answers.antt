use Rattle.std.proofs.Common.{not, rules}
use Rattle.std.proofs.lemmas.Fn.{filter_same}
use Rattle.calculus.specs.Database.{Index}
use Rattle.calculus.specs.Keys.{same_key}
use Rattle.plain_base.proofs.leaving.leave_base.Goals as goal

pub returns : goal.returns
returns c = filter_same _ (λ (x : Index). not (same_key x.base c.args.rel.now)) _ (λ x b f h. search rules) _ _ c.retain.ensures.filtered
