-- A session: what a script does in order, and what stands after it.
use Rattle.std.specs.Prelude.{ℕ, suc, ◌+◌, max, nat_le, Bool, ◌&&◌, if◌then◌else◌, List, [], ◌∷◌, map, length, ◌++◌}
use Rattle.calculus.specs.Lists.{is_any}
use Rattle.calculus.specs.Who.{Asker}
use Rattle.calculus.specs.Database.{Db}
use Rattle.quel_grammar.specs.Next.{Reading}
use Rattle.quel_meaning.specs.State.{State}
use Rattle.quel_meaning.specs.Meaning.{meaning}
use Rattle.quel_meaning.specs.Lines.{lines_of}
use Rattle.quel_meaning.specs.Happening.{Setting, Event, Wrote, Ran, Kept, After, start}
use Rattle.quel_meaning.specs.Running.{Deeper, files_within, after_lines}

-- a session: what happened in order, what statements left, and whether a command ended it
pub record Session : Type 0 where
  pub events : List Event
  pub state : State
  pub quit : Bool

-- how deep files are included within each other
abbrev pub greatest_depth : ℕ
greatest_depth = 8

-- how a file is read that a script includes
abbrev pub files_of : Setting → Deeper
files_of setting = files_within greatest_depth setting

-- a session of which this is kept, and in which this happened
abbrev pub session_after : After → Session
session_after after = record { events = after.events; state = after.kept.state; quit = after.kept.quit }

-- the session of these lines
unfoldable pub session_of_lines : Setting → State → List (List ℕ) → Session
session_of_lines setting state lines = session_after (after_lines setting (files_of setting) (start state) lines)

-- the session of a script
unfoldable pub session_of : Setting → State → List ℕ → Session
session_of setting state script = session_of_lines setting state (lines_of script)

-- what sessions of one who asks rest on: this reading, and what statements mean for him
abbrev pub setting_of : Reading → Asker → Setting
setting_of reading asker = record { reading = reading; meaning = λ state s. meaning state asker s }

-- the session of the script of one who asks, from what stands before it
unfoldable pub session : Reading → Asker → State → List ℕ → Session
session reading asker state script = session_of (setting_of reading asker) state script

-- ---- what a session prints

-- the bytes that an event prints
abbrev pub event_bytes : Event → List ℕ
event_bytes (Wrote bytes) = bytes
event_bytes (Ran reply db) = reply

-- the bytes that events print, in order
unfoldable pub printed : List Event → List ℕ
printed [] = []
printed (event ∷ events) = event_bytes event ++ printed events

-- all bytes that a session prints, in order
abbrev pub output : Session → List ℕ
output s = printed s.events

-- what is printed by these lines, where this is kept
abbrev pub still_printed : Setting → Kept → List (List ℕ) → List ℕ
still_printed setting kept lines = printed (after_lines setting (files_of setting) kept lines).events

-- ---- its databases

-- the database after each statement
abbrev pub databases_after : List Event → List Db
databases_after [] = []
databases_after (Wrote bytes ∷ events) = databases_after events
databases_after (Ran reply db ∷ events) = db ∷ databases_after events

-- the database before a session, and that after each of its statements
abbrev pub databases : Db → Session → List Db
databases before s = before ∷ databases_after s.events

-- ---- where replies end

-- the bytes of a statement's reply, and the place of the output where they end
pub record Ending : Type 0 where
  pub reply : List ℕ
  pub place : ℕ

-- the endings of the statements, where so many bytes are printed before
abbrev pub endings_from : ℕ → List Event → List Ending
endings_from before [] = []
endings_from before (Wrote bytes ∷ events) = endings_from (before + length bytes) events
endings_from before (Ran reply db ∷ events) =
    record { reply = reply; place = before + length reply } ∷ endings_from (before + length reply) events

-- for each statement the place of the output where its reply ends
abbrev pub ends : Session → List ℕ
ends s = map (λ e. e.place) (endings_from 0 s.events)

-- the bytes of each statement's reply
abbrev pub replies : Session → List (List ℕ)
replies s = map (λ e. e.reply) (endings_from 0 s.events)

-- the greatest number of an ending that passes, where the first has this number; 0 where none passes
abbrev pub greatest_number : (Ending → Bool) → ℕ → List Ending → ℕ
greatest_number passes number [] = 0
greatest_number passes number (e ∷ endings) = max (if passes e then number else 0) (greatest_number passes (suc number) endings)

-- the number of the last statement whose reply isn't empty and ends within so many bytes of the output; 0 where there is none
unfoldable pub ended : Session → ℕ → ℕ
ended s taken = greatest_number (λ e. is_any e.reply && nat_le e.place taken) 1 (endings_from 0 s.events)
