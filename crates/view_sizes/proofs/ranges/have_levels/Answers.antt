use Rattle.std.proofs.Common.{◌≡◌, true, is_some}
use Rattle.calculus.specs.Sizes.{level_within}
use Rattle.view_sizes.proofs.Slots.{none}
use Rattle.view_sizes.proofs.ranges.have_levels.Goals as goal

pub returns-clause-known : goal.returns-clause-known
returns-clause-known g c = λ db h.
    c.have_levels_found.ensures.known db h (none (λ e. is_some (level_within e.1 db e.0) ≡ true) _ c.new-found.ensures.empty)
