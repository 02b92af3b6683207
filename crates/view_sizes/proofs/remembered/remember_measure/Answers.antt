use Rattle.std.proofs.Common.{◌≡◌, ℕ, sym, ap, subst, ◌∙◌}
use Rattle.calculus.specs.declared.query.RelKey.{RelKey}
use Rattle.calculus.specs.Sizes.{measure_within}
use Rattle.view_sizes.specs.Measured.{held, stopped_measure}
use Rattle.view_sizes.specs.Remembered.{AreMeasured}
use Rattle.view_sizes.proofs.Slots.{came, put_in}
use Rattle.view_sizes.proofs.remembered.remember_measure.Goals as goal

pub returns-in-Ok : goal.returns-in-Ok
returns-in-Ok c = λ db all is.
    let slot = came (λ s. s ≡ (c.args.key.now, c.args.levels)) c.slot_of.result c.in_ok-slot.slot c.in_ok-slot.ensures.first c.slot_of.ensures in
    let copy = came (λ m. held m ≡ held c.args.measure.now) c.copied.result c.in_ok-slot.copy c.in_ok-slot.ensures.second c.copied.ensures in
    subst (AreMeasured db) (sym c.in-Ok.ensures.entries)
    (put_in (λ s m. held m ≡ stopped_measure (measure_within s.1 db s.0)) c.args.found.now.entries c.in_ok-slot.slot c.in_ok-slot.copy all
    (copy ∙ is ∙ ap (λ (s : RelKey × ℕ). stopped_measure (measure_within s.1 db s.0)) (sym slot)))
