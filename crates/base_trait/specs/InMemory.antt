-- A base with no disk below it.
use Rattle.std.proofs.Common.{inl, true, refl, arith}
use Rattle.base_trait.specs.Crashes.{OnlyAsked}

-- where there is no disk, nothing is left and all counts are 0
pub asked_in_memory : OnlyAsked 0 0 true true (λ t o. ⊥) (λ t o. ⊥)
asked_in_memory = record {
  nothing_else = record { later = omega arith; each = λ t o le l. inl l };
  quiet = λ ready. (refl, ready);
}
