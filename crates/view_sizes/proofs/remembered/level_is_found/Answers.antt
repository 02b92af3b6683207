use Rattle.std.proofs.Common.{◌≡◌, ℕ, sym, subst, ◌∙◌, true, is_some}
use Rattle.calculus.specs.declared.query.RelKey.{RelKey}
use Rattle.calculus.specs.Sizes.{level_within}
use Rattle.view_sizes.proofs.Slots.{is_among}
use Rattle.view_sizes.proofs.remembered.level_is_found.Goals as goal

pub returns : goal.returns
returns c = λ db all there.
    subst (λ (s : RelKey × ℕ). is_some (level_within s.1 db s.0) ≡ true) c.in_ok-slot.ensures
    (is_among (λ s. is_some (level_within s.1 db s.0) ≡ true) c.args.found.now.keys c.in_ok-slot.slot all (sym c.contains.ensures ∙ there))
