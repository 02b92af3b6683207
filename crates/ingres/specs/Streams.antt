-- Standard input, as contracts see it.
use Rattle.std.specs.Prelude.{ℕ, Bool}

-- what it reads from, how many bytes it has given, how often a call has failed, and whether it has answered that it has ended
pub record Input (R : Type 0) : Type 0 where
  pub inner : R
  pub given : ℕ
  pub faults : ℕ
  pub ended : Bool
