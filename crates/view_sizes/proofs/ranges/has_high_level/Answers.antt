use Rattle.std.proofs.Common.{◌∙◌, ap, is_some}
use Rattle.std.specs.List.{list_all}
use Rattle.calculus.specs.Sizes.{level_within}
use Rattle.view_sizes.proofs.Counting.{vars_is}
use Rattle.view_sizes.proofs.Ranged.{levels_within, turned}
use Rattle.view_sizes.proofs.ranges.has_high_level.Goals as goal

pub returns-clause-known : goal.returns-clause-known
returns-clause-known g c = λ db h.
    turned _ _ (c.in_ok-have.ensures.known db h
    ∙ ap (list_all (λ key. is_some (level_within 15 db key))) (c.items.ensures ∙ vars_is c.args.query.now) ∙ levels_within db c.args.query.now)
