use Rattle.std.proofs.Common.{◌≡◌}
use Rattle.calculus.specs.Sizes.{measure_within}
use Rattle.view_sizes.specs.Measured.{held, stopped_measure}
use Rattle.view_sizes.proofs.Slots.{none}
use Rattle.view_sizes.proofs.measures.measure_of.Goals as goal

pub returns-clause-known : goal.returns-clause-known
returns-clause-known g c = λ db h few.
    c.measure_through.ensures.known db h (none (λ e. held e.1 ≡ stopped_measure (measure_within e.0.1 db e.0.0)) _ c.new-found.ensures.empty) few
