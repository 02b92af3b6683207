use Rattle.std.proofs.Common.{◌≡◌}
use Rattle.calculus.specs.Sizes.{measure_within}
use Rattle.view_sizes.specs.Measured.{held, stopped_measure}
use Rattle.view_sizes.proofs.Enlarged.{expanded_so}
use Rattle.view_sizes.proofs.Slots.{none}
use Rattle.view_sizes.proofs.expanded.expanded_variables.Goals as goal

pub returns-clause-known : goal.returns-clause-known
returns-clause-known g c = λ db h few all.
    let nothing = none (λ e. held e.1 ≡ stopped_measure (measure_within e.0.1 db e.0.0)) _ c.new-found.ensures.empty in
    expanded_so db c.args.query.now c.in_ok-own.own c.in_ok-below.below c.saturating_add.result (c.in_ok-own.ensures.known db h nothing few) (c.in_ok-below.ensures.known db (c.in_ok-own.ensures.stays _ h) (c.in_ok-own.ensures.found db h nothing) all) c.saturating_add.ensures
