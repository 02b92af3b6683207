use Rattle.std.proofs.Common.{not, ◌&&◌, rules}
use Rattle.std.proofs.lemmas.Fn.{filter_same}
use Rattle.calculus.specs.Keys.{same_key}
use Rattle.calculus.specs.Lists.{has_number}
use Rattle.plain_base.proofs.leaving.leave_numbers.Goals as goal

pub returns : goal.returns
returns g c =
    filter_same _ (λ p. not (same_key p.0 c.args.rel.now && has_number c.args.numbers.now (g.T.Numbered.number p.1))) _ (λ x b f h. search rules) _ _
    c.retain.ensures.filtered
