-- What a run of the stages has printed of the session of a script, by the bytes of it that were read.
use Rattle.std.specs.Prelude.{◌≡◌, ◌⊎◌, ◌+◌, ◌≤◌, ℕ, true, false, List, [], Some, drop, take}
use Rattle.std.specs.declared.option.Option.{Option}
use Rattle.std.specs.Io.KnownBytes.{Appends}
use Rattle.fault_io.specs.Files.{Files}
use Rattle.fault_io.specs.Known.{GrewBy, IsFront}
use Rattle.network_meaning.specs.Calls.{Known, Knows}
use Rattle.network_meaning.specs.LocalSteps.{Room}
use Rattle.quel_meaning.specs.Lines.{whole_lines}
use Rattle.quel_meaning.specs.Session.{Session, output, session, session_of_lines}
use Rattle.quel_meaning.specs.State.{State}
use Rattle.quel_network.specs.Quel.{setting_for}
use Rattle.quel_network.specs.Sorts.{User, quel_sorts}

-- what stands before a session in a room: its database, its files, and no range variables
abbrev pub before_all : Room quel_sorts → State
before_all r = record { db = r.db; shelf = r.shelf; ranges = [] }

-- the session of the script of a room
abbrev pub whole : User → Room quel_sorts → Session
whole user r = session user.reading user.asker (before_all r) r.script

-- the session of those lines of the script that lie wholly in its first so many bytes
abbrev pub within : ℕ → User → Room quel_sorts → Session
within limit user r = session_of_lines (setting_for user) (before_all r) (whole_lines (take limit r.script))

-- all was done from this room on: the session's output was written, its database and its files are left, and the script was read to its end, or a command ended the session
pub record AllDone (user : User) (r : Room quel_sorts) (old now : Known quel_sorts) : Type 0 where
  pub room : Room quel_sorts
  pub known : Knows now room
  pub printed : Appends old.out now.out (output (whole user r))
  pub database : room.db ≡ (whole user r).state.db
  pub files : room.shelf ≡ (whole user r).state.shelf
  pub read : (room.script ≡ []) ⊎ ((whole user r).quit ≡ true)

-- what was written is a front of the session's output
abbrev pub IsPartly : User → Room quel_sorts → Option (List ℕ) → Option (List ℕ) → Type 0
IsPartly user r out out' = GrewBy out out' (λ more. IsFront more (output (whole user r)))

-- what was read is so many bytes and at most one more; no line that lies wholly in the first ended the session, and at least what these lines print was written
pub record KeptUp (user : User) (r : Room quel_sorts) (script' out out' : Option (List ℕ)) : Type 0 where
  pub heard : ℕ
  pub more : ℕ
  pub small : more ≤ 1
  pub read : script' ≡ Some (drop (heard + more) r.script)
  pub goes_on : (within heard user r).quit ≡ false
  pub printed : GrewBy out out' (λ bytes. IsFront (output (within heard user r)) bytes)

-- so many bytes were read: no line that lies wholly in the first of them ended the session, exactly what these lines print was written, and the files are those that they left
pub record BrokenOff (user : User) (r : Room quel_sorts) (read lines : ℕ) (script' out out' : Option (List ℕ)) (files' : Option Files) : Type 0 where
  pub left : script' ≡ Some (drop read r.script)
  pub goes_on : (within lines user r).quit ≡ false
  pub printed : Appends out out' (output (within lines user r))
  pub shelved : files' ≡ Some (within lines user r).state.shelf

-- the source broke off behind some bytes
abbrev pub IsBrokenOff : User → Room quel_sorts → Option (List ℕ) → Option (List ℕ) → Option (List ℕ) → Option Files → Type 0
IsBrokenOff user r script' out out' files' = (read : ℕ) × BrokenOff user r read read script' out out' files'
