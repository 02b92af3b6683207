-- Some stage is not blocked, or all have ended.
use Rattle.std.specs.Prelude.{◌≡◌, ℕ, false}
use Rattle.network_meaning.specs.Sorts.{Sorts}
use Rattle.network_meaning.specs.LocalSteps.{Want.none}
use Rattle.network_meaning.specs.MessageNetwork.{StageNumber}
use Rattle.network_meaning.specs.Network.{Network, is_stuck, want}

-- some stage is not blocked
pub data SomeGoes {S : Sorts} (capacity : ℕ) (n : Network S) : Type 0 where
  goes : (k : StageNumber) → is_stuck capacity k n ≡ false → SomeGoes capacity n

-- all four have ended, with nothing to give
pub record AllEnded {S : Sorts} (n : Network S) : Type 0 where
  pub one : want n.one ≡ none
  pub two : want n.two ≡ none
  pub three : want n.three ≡ none
  pub four : want n.four ≡ none
