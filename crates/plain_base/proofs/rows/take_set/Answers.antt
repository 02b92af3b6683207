use Rattle.std.proofs.Common.{◌≡◌, refl, not, rules}
use Rattle.calculus.specs.Rows.{Row, has}
use Rattle.plain_base.proofs.Known.{filter_known}
use Rattle.plain_base.proofs.rows.take_set.Goals as goal

pub returns-clause-rows : goal.returns-clause-rows
returns-clause-rows c =
    filter_known _ (λ (row : Row). not (has c.args.gone.now row)) (λ f. f.0 ≡ c.args.gone) (λ f x b g i h. search rules) _ refl _ _ c.retain.ensures.filtered
