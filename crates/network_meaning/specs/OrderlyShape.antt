-- Orderliness without a room: where the network stands, whatever the stages work on.
use Rattle.network_meaning.specs.Sorts.{Sorts}
use Rattle.network_meaning.specs.Language.{Language}
use Rattle.network_meaning.specs.LocalSteps.{Room}
use Rattle.network_meaning.specs.Due.{IsDue}
use Rattle.network_meaning.specs.Spelled.{IsSpelled}
use Rattle.network_meaning.specs.Orderly.{Phase, spread, RoutedPhase}
use Rattle.network_meaning.specs.Network.{Network, Shows}
use Rattle.network_meaning.specs.Calls.{Shape, join}

-- the network but for its room
abbrev pub shape_of : {S : Sorts} → Network S → Shape S
shape_of n = record { one = n.one; two = n.two; three = n.three; four = n.four; a = n.a; b = n.b; c = n.c; d = n.d; e = n.e; f = n.f }

-- all else but the room is determined by the place of the turn: some phase in some room is shown, what is on its way is due and spelled,
-- and what goes to stage 4 is a change or a tree of a utility. Of a database that it fits nothing is said
pub record OrderlyShape {S : Sorts} (L : Language S) (shape : Shape S) : Type 0 where
  pub phase : Phase S
  pub room : Room S
  pub routed : RoutedPhase L phase
  pub due : IsDue L (spread phase room)
  pub spelled : IsSpelled L (spread phase room)
  pub shows : Shows L (join shape room) (spread phase room)
