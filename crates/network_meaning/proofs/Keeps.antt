-- A step of messages that leads from a phase to a phase, with the same bytes in all.
use Rattle.std.proofs.Common.{◌≡◌, Bool, true, false, List, Some}
use Rattle.network_meaning.specs.Sorts.{Sorts, Message}
use Rattle.network_meaning.specs.Language.{Language}
use Rattle.network_meaning.specs.LocalSteps.{Act, Room, if_due}
use Rattle.network_meaning.specs.MessageNetwork.{MessageNetwork, Beside, StageNumber, beside, put, acted}
use Rattle.network_meaning.specs.Held.{total}
use Rattle.network_meaning.specs.Due.{IsDue}
use Rattle.network_meaning.specs.Spelled.{IsSpelled}
use Rattle.network_meaning.specs.Orderly.{Phase, spread, FitPhase, RoutedPhase}

-- the messages are those of a phase, and were those of this one: what goes to stage 4 is right and what travels is fit where it was so
pub record Keeps {S : Sorts} (L : Language S) (old : Phase S) (before : Room S) (v : MessageNetwork S) : Type 0 where
  pub phase : Phase S
  pub room : Room S
  pub is : v ≡ spread phase room
  pub routed : RoutedPhase L old → RoutedPhase L phase
  pub fits : FitPhase L old before.db → FitPhase L phase room.db
  pub due : IsDue L (spread phase room)
  pub spelled : IsSpelled L (spread phase room)
  pub same : total L v ≡ total L (spread old before)

-- where a stage takes: the act is the one that is meant
pub taken : {S : Sorts} (L : Language S) (p : Phase S) (room : Room S) (k : StageNumber) (left right : List (Message S)) (known act : Act S) (s' : Beside S) (v' : MessageNetwork S) →
    Some known ≡ Some act → s' ≡ acted (beside (spread p room) k) act left right room → v' ≡ put (spread p room) k s' →
    Keeps L p room (put (spread p room) k (acted (beside (spread p room) k) known left right room)) → Keeps L p room v'
taken {S} L p room k left right known act s' v' e1 e2 e3 h =
    let e4 : known ≡ act = cc in
    rw e3 (rw e2 (rw (← e4) h))

-- where a stage works
pub worked : {S : Sorts} (L : Language S) (p : Phase S) (room : Room S) (k : StageNumber) (known act : Act S) (new room' : Room S) (s' : Beside S) (v' : MessageNetwork S) →
    act ≡ known → room' ≡ new → s' ≡ acted (beside (spread p room) k) act (beside (spread p room) k).left_in (beside (spread p room) k).right_in room' → v' ≡ put (spread p room) k s' →
    Keeps L p room (put (spread p room) k (acted (beside (spread p room) k) known (beside (spread p room) k).left_in (beside (spread p room) k).right_in new)) → Keeps L p room v'
worked L p room k known act new room' s' v' e1 e2 e3 e4 h = rw e4 (rw e3 (rw (e1, e2) h))

-- what is not due is not taken
pub due : {S : Sorts} (test : Bool) (known act : Act S) → if_due test known ≡ Some act → Some known ≡ Some act
due true known act e = e
due false known act e = cc
