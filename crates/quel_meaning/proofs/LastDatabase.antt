-- The database after a session is that after its last statement.
use Rattle.std.proofs.Common.{◌≡◌, refl, ap, ◌∙◌, ℕ, zero, suc, Bool, true, false, List, [], ◌∷◌, ◌++◌, length, Option, Some, None}
use Rattle.std.specs.Prelude.{◌+◌, nat_le}
use Rattle.calculus.specs.Database.{Db}
use Rattle.fault_io.specs.Files.{fetched}
use Rattle.quel_meaning.specs.State.{State}
use Rattle.quel_meaning.specs.Lines.{lines_of}
use Rattle.quel_meaning.specs.Monitor.{Command, Go, Print, Reset, Append, Quit, Include, Write, Unknown, Part, Piece, Order, parts_of}
use Rattle.quel_meaning.specs.Buffer.{buffer_after}
use Rattle.quel_meaning.specs.Batch.{StatementAt, Batch, batch_of}
use Rattle.quel_meaning.specs.Happening.{Setting, Event, Wrote, Ran, Kept, After, start, quiet, refused, and_then, over}
use Rattle.quel_meaning.specs.Running.{after_statement, after_refusal, after_batch, Deeper, most_included, after_include, after_file, carried_out, after_command, after_open_part, after_part, after_line, after_lines, files_within}
use Rattle.quel_meaning.specs.Session.{session_of_lines, databases, databases_after, greatest_depth, files_of}

-- the database after events, where this one stood before
last : Db → List Event → Db
last db [] = db
last db (Wrote bytes ∷ events) = last db events
last db (Ran reply next ∷ events) = last next events

last_append : (db : Db) (es fs : List Event) → last db (es ++ fs) ≡ last (last db es) fs
unfolding last
last_append db [] fs = refl
last_append db (Wrote bytes ∷ es) fs = last_append db es fs
last_append db (Ran reply next ∷ es) fs = last_append next es fs

-- what is kept has the database after the last statement
abbrev Keeps : Db → After → Type 0
Keeps db a = last db a.events ≡ a.kept.state.db

keeps_then : (db : Db) (first : After) (next : Kept → After) → Keeps db first → ((k : Kept) → Keeps k.state.db (next k)) → Keeps db (and_then first next)
keeps_then db first next h each =
    last_append db first.events (next first.kept).events ∙ ap (λ (d : Db). last d (next first.kept).events) h ∙ each first.kept

keeps_over : {X : Type 0} (step : Kept → X → After) → ((k : Kept) (x : X) → Keeps k.state.db (step k x)) → (kept : Kept) (xs : List X) → Keeps kept.state.db (over step kept xs)
unfolding over last
keeps_over step each kept [] = refl
keeps_over step each kept (x ∷ xs) = keeps_then kept.state.db (step kept x) (λ k. over step k xs) (each kept x) (λ k. keeps_over step each k xs)

keeps_statement : (setting : Setting) (kept : Kept) (placed : StatementAt) → Keeps kept.state.db (after_statement setting kept placed)
unfolding after_statement last
keeps_statement setting kept placed = refl

keeps_refusal : (line : Option ℕ) (kept : Kept) → Keeps kept.state.db (after_refusal line kept)
unfolding last
keeps_refusal None kept = refl
keeps_refusal (Some line) kept = refl

keeps_batch : (setting : Setting) (batch : Batch) (kept : Kept) → Keeps kept.state.db (after_batch setting batch kept)
unfolding after_batch
keeps_batch setting batch kept =
    keeps_then kept.state.db (over (after_statement setting) kept batch.statements) (after_refusal batch.refused)
    (keeps_over (after_statement setting) (keeps_statement setting) kept batch.statements) (keeps_refusal batch.refused)

-- reading a file keeps it
abbrev KeepsDeeper : Deeper → Type 0
KeepsDeeper None = Unit {0}
KeepsDeeper (Some deeper) = (kept : Kept) (bytes : List ℕ) → Keeps kept.state.db (deeper kept bytes)

keeps_within : (deeper : Kept → List ℕ → After) → KeepsDeeper (Some deeper) → (kept : Kept) (bytes : List ℕ) (within : Bool)
    → Keeps kept.state.db (elim within [ true ↦ deeper (record kept { included = kept.included + length bytes }) bytes | false ↦ refused kept 3 0 ])
unfolding last
keeps_within deeper each kept bytes true = each (record kept { included = kept.included + length bytes }) bytes
keeps_within deeper each kept bytes false = refl

keeps_include : (deeper : Deeper) → KeepsDeeper deeper → (kept : Kept) (bytes : List ℕ) → Keeps kept.state.db (after_include deeper kept bytes)
unfolding last
keeps_include None each kept bytes = refl
keeps_include (Some deeper) each kept bytes = keeps_within deeper each kept bytes (nat_le (kept.included + length bytes) most_included)

keeps_file : (deeper : Deeper) → KeepsDeeper deeper → (kept : Kept) (file : Option (List ℕ)) → Keeps kept.state.db (after_file deeper kept file)
unfolding last
keeps_file deeper each kept None = refl
keeps_file deeper each kept (Some bytes) = keeps_include deeper each kept bytes

keeps_carried : (setting : Setting) (deeper : Deeper) → KeepsDeeper deeper → (kept : Kept) (command : Command) → Keeps kept.state.db (carried_out setting deeper kept command)
unfolding carried_out last
keeps_carried setting deeper each kept Go = keeps_batch setting (batch_of setting.reading kept.buffer.text) kept
keeps_carried setting deeper each kept Print = refl
keeps_carried setting deeper each kept Reset = refl
keeps_carried setting deeper each kept Append = refl
keeps_carried setting deeper each kept Quit = refl
keeps_carried setting deeper each kept (Include []) = refl
keeps_carried setting deeper each kept (Include (b ∷ bs)) = keeps_file deeper each kept (fetched kept.state.shelf (b ∷ bs))
keeps_carried setting deeper each kept (Write []) = refl
keeps_carried setting deeper each kept (Write (b ∷ bs)) = refl
keeps_carried setting deeper each kept Unknown = refl

keeps_open : (setting : Setting) (deeper : Deeper) → KeepsDeeper deeper → (kept : Kept) (part : Part) → Keeps kept.state.db (after_open_part setting deeper kept part)
unfolding after_command last
keeps_open setting deeper each kept (Piece bytes) = refl
keeps_open setting deeper each kept (Order command) = keeps_carried setting deeper each (record kept { buffer = buffer_after command kept.buffer }) command

keeps_quit : (setting : Setting) (deeper : Deeper) → KeepsDeeper deeper → (kept : Kept) (part : Part) (quit : Bool)
    → Keeps kept.state.db (elim quit [ true ↦ quiet kept | false ↦ after_open_part setting deeper kept part ])
unfolding last
keeps_quit setting deeper each kept part true = refl
keeps_quit setting deeper each kept part false = keeps_open setting deeper each kept part

keeps_part : (setting : Setting) (deeper : Deeper) → KeepsDeeper deeper → (kept : Kept) (part : Part) → Keeps kept.state.db (after_part setting deeper kept part)
unfolding after_part
keeps_part setting deeper each kept part = keeps_quit setting deeper each kept part kept.quit

keeps_line : (setting : Setting) (deeper : Deeper) → KeepsDeeper deeper → (kept : Kept) (line : List ℕ) → Keeps kept.state.db (after_line setting deeper kept line)
unfolding after_line
keeps_line setting deeper each kept line = keeps_over (after_part setting deeper) (keeps_part setting deeper each) kept (parts_of line)

keeps_lines : (setting : Setting) (deeper : Deeper) → KeepsDeeper deeper → (kept : Kept) (lines : List (List ℕ)) → Keeps kept.state.db (after_lines setting deeper kept lines)
unfolding after_lines
keeps_lines setting deeper each kept lines = keeps_over (after_line setting deeper) (keeps_line setting deeper each) kept lines

keeps_files : (depth : ℕ) (setting : Setting) → KeepsDeeper (files_within depth setting)
unfolding files_within
keeps_files zero setting = tt
keeps_files (suc depth) setting = λ kept bytes. keeps_lines setting (files_within depth setting) (keeps_files depth setting) kept (lines_of bytes)

-- the last of the databases
last_of : (db : Db) (events : List Event) → (front : List Db) × ((db ∷ databases_after events) ≡ front ++ last db events ∷ [])
unfolding last
last_of db [] = ([], refl)
last_of db (Wrote bytes ∷ events) = last_of db events
last_of db (Ran reply next ∷ events) = let rest = last_of next events in (db ∷ rest.0, ap (λ (x : List Db). db ∷ x) rest.1)

-- the databases of a session end with that which stands after it
pub ends_with : (setting : Setting) (state : State) (lines : List (List ℕ))
    → (front : List Db) × (databases state.db (session_of_lines setting state lines) ≡ front ++ (session_of_lines setting state lines).state.db ∷ [])
unfolding session_of_lines
ends_with setting state lines =
    let done = after_lines setting (files_of setting) (start state) lines in
    let found = last_of state.db done.events in (
      found.0,
      found.1 ∙ ap (λ (d : Db). found.0 ++ d ∷ []) (keeps_lines setting (files_of setting) (keeps_files greatest_depth setting) (start state) lines),
    )
