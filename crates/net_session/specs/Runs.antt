-- What the steps of the four stages by the turns of a number come to.
use Rattle.std.specs.Prelude.{◌≡◌, ◌⊎◌, ◌∷◌, ℕ, List, [], Result, Ok, Err}
use Rattle.net_core.specs.declared.fault.WorkFault.{WorkFault}
use Rattle.net_core.specs.declared.fault.WorkFault.TheVariants as faults
use Rattle.net_core.specs.Known.{Outside}
use Rattle.net_core.specs.Whole.{HaveEnded, StopsAt, seen, start_shape}
use Rattle.network_meaning.specs.Calls.{Known, RunsTurns, Shape}
use Rattle.net_session.specs.Rounds.{AreFirst, capacity_of}
use Rattle.quel_network.specs.Quel.{quel}
use Rattle.quel_network.specs.Sorts.{User, quel_sorts}

-- the database, the files and the output that are left are those of this room, as far as they are known
pub record IsLeft (room : Known quel_sorts) (new : Outside) : Type 0 where
  pub database : new.database ≡ room.db
  pub files : new.files ≡ room.shelf
  pub output : new.output ≡ room.out

-- the first turns of a number were made from the start on, and led here
pub record Ran (user : User) (number : ℕ) (old new : Outside) (now : Shape quel_sorts) : Type 0 where
  pub turns : List ℕ
  pub first : AreFirst number turns
  pub room : Known quel_sorts
  pub runs : RunsTurns (quel user) (capacity_of number) turns (seen start_shape old) (record { shape = now; known = room })
  pub left : IsLeft room new

-- the first turns of a number were made up to one that failed by this fault, and left this
pub record RanToFault (user : User) (number : ℕ) (old new : Outside) (fault : WorkFault) : Type 0 where
  pub turns : List ℕ
  pub first : AreFirst number turns
  pub heard : ℕ
  pub after : Outside
  pub stops : StopsAt (quel user) (capacity_of number) turns (1 ∷ 2 ∷ 3 ∷ 4 ∷ []) heard (seen start_shape old) after fault
  pub database : new.database ≡ after.database
  pub files : new.files ≡ after.files
  pub output : new.output ≡ after.output

-- the first turns of a number were made up to a step behind which all stages have ended; or up to one that failed; or memory was wanting before the first of them or behind the last
abbrev pub RanBy : User → ℕ → Outside → Outside → Result (Unit {0}) WorkFault → Type 0
RanBy user number old new (Ok x) = (now : Shape quel_sorts) × HaveEnded now × Ran user number old new now
RanBy user number old new (Err fault) = RanToFault user number old new fault ⊎ ((fault ≡ faults.OutOfMemory) × (now : Shape quel_sorts) × Ran user number old new now)
