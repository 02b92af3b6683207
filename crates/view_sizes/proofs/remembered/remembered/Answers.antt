use Rattle.std.proofs.Common.{◌≡◌}
use Rattle.calculus.specs.Sizes.{measure_within}
use Rattle.view_sizes.specs.Measured.{held, stopped_measure}
use Rattle.view_sizes.proofs.Slots.{looked_up, shown}
use Rattle.view_sizes.proofs.remembered.remembered.Goals as goal

pub returns : goal.returns
returns c = λ db all.
    shown (λ r. r.now) (λ m. held m ≡ stopped_measure (measure_within c.args.slot.now.1 db c.args.slot.now.0)) c.get.result _ c.get.ensures.value
    (looked_up (λ s m. held m ≡ stopped_measure (measure_within s.1 db s.0)) c.args.found.now.entries c.args.slot.now all)
