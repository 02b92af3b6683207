use Rattle.std.proofs.Common.{◌≡◌, ◌∙◌}
use Rattle.calculus.specs.Sizes.{measure_within}
use Rattle.view_sizes.specs.Measured.{held, stopped_measure}
use Rattle.view_sizes.proofs.Counting.{vars_is}
use Rattle.view_sizes.proofs.Enlarged.{listed_so}
use Rattle.view_sizes.proofs.Slots.{none}
use Rattle.view_sizes.proofs.expanded.listed_expanded_variables.Goals as goal

pub returns-clause-known : goal.returns-clause-known
returns-clause-known g c = λ db h all.
    let nothing = none (λ e. held e.1 ≡ stopped_measure (measure_within e.0.1 db e.0.0)) _ c.new-found.ensures.empty in
    listed_so db c.args.query.now c.items.result.now c.in_ok-own.own c.in_ok-below.below c.saturating_add.result (c.items.ensures ∙ vars_is c.args.query.now) (c.in_ok-own.ensures.known db h nothing)
    (c.in_ok-below.ensures.known db (c.in_ok-own.ensures.stays _ h) (c.in_ok-own.ensures.found db h nothing) all) c.saturating_add.ensures
