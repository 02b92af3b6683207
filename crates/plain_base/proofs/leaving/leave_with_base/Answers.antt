use Rattle.std.proofs.Common.{not, ◌||◌, rules}
use Rattle.std.proofs.lemmas.Fn.{filter_same}
use Rattle.calculus.specs.Database.{Index}
use Rattle.calculus.specs.Keys.{has_key}
use Rattle.plain_base.proofs.leaving.leave_with_base.Goals as goal

pub returns : goal.returns
returns c =
    filter_same _ (λ (x : Index). not (has_key c.args.keys.now x.info.key || has_key c.args.keys.now x.base)) _ (λ x b f h. search rules) _ _
    c.retain.ensures.filtered
