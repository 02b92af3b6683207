-- What happens in a session: events, what is kept from each to the next, and steps one after the other.
use Rattle.std.specs.Prelude.{◌≡◌, ℕ, Bool, false, List, [], ◌∷◌, ◌++◌}
use Rattle.calculus.specs.declared.statement.Statement.{Statement}
use Rattle.calculus.specs.Database.{Db}
use Rattle.quel_grammar.specs.Next.{Reading}
use Rattle.quel_meaning.specs.State.{State, Outcome}
use Rattle.quel_meaning.specs.Printed.{refusal_bytes}
use Rattle.quel_meaning.specs.Buffer.{Buffer, empty_buffer}

-- ---- what a session rests on, and what it gives

-- how texts are read, and what a statement means for the user
pub record Setting : Type 0 where
  pub reading : Reading
  pub meaning : State → Statement → Outcome

-- the settings agree: they read the same and mean the same
pub record Agree (s t : Setting) : Type 0 where
  pub reading : (text : List ℕ) (from : ℕ) → s.reading text from ≡ t.reading text from
  pub meaning : (state : State) (statement : Statement) → s.meaning state statement ≡ t.meaning state statement

-- what happened: the monitor printed bytes; or a statement ran, with the bytes of its reply and the database after it
pub data Event : Type 0 where
  Wrote : List ℕ → Event
  Ran : List ℕ → Db → Event

-- what a session keeps: what statements work on; the query buffer; the bytes of all files that were included; and whether it was ended
pub record Kept : Type 0 where
  pub state : State
  pub buffer : Buffer
  pub included : ℕ
  pub quit : Bool

-- what is kept after a part of a session, and what happened in it
pub record After : Type 0 where
  pub kept : Kept
  pub events : List Event

-- a session begins: nothing is in the buffer, and nothing was included
abbrev pub start : State → Kept
start state = record { state = state; buffer = empty_buffer; included = 0; quit = false }

-- nothing happened
abbrev pub quiet : Kept → After
quiet kept = record { kept = kept; events = [] }

-- the monitor printed this
abbrev pub wrote : Kept → List ℕ → After
wrote kept bytes = record { kept = kept; events = Wrote bytes ∷ [] }

-- the monitor refused a command, or a batch at this line
abbrev pub refused : Kept → ℕ → ℕ → After
refused kept code line = wrote kept (refusal_bytes (record { code = code; line = line; row = 0 }))

-- what happened first, and then the rest
abbrev pub behind : List Event → After → After
behind events a = record { kept = a.kept; events = events ++ a.events }

-- one step, and the next from what the first kept
abbrev pub and_then : After → (Kept → After) → After
and_then first next = behind first.events (next first.kept)

-- the steps on these items, one after the other
unfoldable pub over : {X : Type 0} → (Kept → X → After) → Kept → List X → After
over step kept [] = quiet kept
over step kept (x ∷ xs) = and_then (step kept x) (λ k. over step k xs)
