use Rattle.std.proofs.Common.{not, rules}
use Rattle.std.proofs.lemmas.Fn.{filter_same}
use Rattle.calculus.specs.Keys.{has_key}
use Rattle.plain_base.proofs.leaving.leave_keys.Goals as goal

pub returns : goal.returns
returns g c = filter_same _ (λ p. not (has_key c.args.keys.now p.0)) _ (λ x b f h. search rules) _ _ c.retain.ensures.filtered
