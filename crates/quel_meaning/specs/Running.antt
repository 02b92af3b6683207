-- What a script does, from its lines down to its commands and statements.
use Rattle.std.specs.Prelude.{ℕ, zero, suc, ◌+◌, nat_le, true, false, List, [], ◌∷◌, length, Option, Some, None}
use Rattle.calculus.specs.declared.reply.Reply.{Reply}
use Rattle.calculus.specs.declared.reply.Reply.TheVariants.{Nothing, Done, Refused, Tables}
use Rattle.fault_io.specs.Files.{fetched, stored}
use Rattle.quel_meaning.specs.State.{Outcome}
use Rattle.quel_meaning.specs.Printed.{reply_bytes}
use Rattle.quel_meaning.specs.Lines.{lines_of}
use Rattle.quel_meaning.specs.Monitor.{Command, Go, Print, Reset, Append, Quit, Include, Write, Unknown, Part, Piece, Order, parts_of}
use Rattle.quel_meaning.specs.Buffer.{with_piece, buffer_after}
use Rattle.quel_meaning.specs.Batch.{StatementAt, Batch, batch_of}
use Rattle.quel_meaning.specs.Happening.{Setting, Ran, Kept, After, quiet, wrote, refused, and_then, over}

-- ---- a batch

-- the reply, where a refusal has this line
abbrev pub at_line : ℕ → Reply → Reply
at_line line Nothing = Nothing
at_line line Done = Done
at_line line (Refused r) = Refused (record r { line = line })
at_line line (Tables tables) = Tables tables

-- what a statement leaves, whose first token has this line
abbrev pub after_outcome : Kept → ℕ → Outcome → After
after_outcome kept line outcome = record {
  kept = record kept { state = outcome.state };
  events = Ran (reply_bytes (at_line line outcome.reply)) outcome.state.db ∷ [];
}

-- a statement runs
unfoldable pub after_statement : Setting → Kept → StatementAt → After
after_statement setting kept placed = after_outcome kept placed.line (setting.meaning kept.state placed.statement)

-- the rest of a batch is refused at a line, or nothing is
abbrev pub after_refusal : Option ℕ → Kept → After
after_refusal None kept = quiet kept
after_refusal (Some line) kept = refused kept 1 line

-- the statements of a batch run in order, and then the syntax refusal comes, if there is one
unfoldable pub after_batch : Setting → Batch → Kept → After
after_batch setting batch kept = and_then (over (after_statement setting) kept batch.statements) (after_refusal batch.refused)

-- ---- commands

-- the bytes of all files that a run includes
abbrev pub most_included : ℕ
most_included = 16777216

-- how the bytes of a file are read that is included here; none where as many files are open as may be
abbrev pub Deeper : Type 0
Deeper = Option (Kept → List ℕ → After)

-- a file is read, where so many files may be open and so many bytes be included
abbrev pub after_include : Deeper → Kept → List ℕ → After
after_include None kept bytes = refused kept 3 0
after_include (Some deeper) kept bytes = elim (nat_le (kept.included + length bytes) most_included) [
  | true ↦ deeper (record kept { included = kept.included + length bytes }) bytes
  | false ↦ refused kept 3 0
]

-- the file of a name is read, if it is there
abbrev pub after_file : Deeper → Kept → Option (List ℕ) → After
after_file deeper kept None = refused kept 32 0
after_file deeper kept (Some bytes) = after_include deeper kept bytes

-- the buffer is stored as the file of a name
abbrev pub after_write : Kept → List ℕ → After
after_write kept file = quiet (record kept { state = record kept.state { shelf = stored kept.state.shelf file kept.buffer.text } })

-- what a command does apart from the buffer and its mark
unfoldable pub carried_out : Setting → Deeper → Kept → Command → After
carried_out setting deeper kept Go = after_batch setting (batch_of setting.reading kept.buffer.text) kept
carried_out setting deeper kept Print = wrote kept kept.buffer.text
carried_out setting deeper kept Reset = quiet kept
carried_out setting deeper kept Append = quiet kept
carried_out setting deeper kept Quit = quiet (record kept { quit = true })
carried_out setting deeper kept (Include []) = refused kept 2 0
carried_out setting deeper kept (Include (b ∷ bs)) = after_file deeper kept (fetched kept.state.shelf (b ∷ bs))
carried_out setting deeper kept (Write []) = refused kept 2 0
carried_out setting deeper kept (Write (b ∷ bs)) = after_write kept (b ∷ bs)
carried_out setting deeper kept Unknown = refused kept 2 0

-- a command changes the buffer and is carried out
unfoldable pub after_command : Setting → Deeper → Kept → Command → After
after_command setting deeper kept command = carried_out setting deeper (record kept { buffer = buffer_after command kept.buffer }) command

-- ---- lines and scripts

-- a piece goes to the buffer, a command is carried out
abbrev pub after_open_part : Setting → Deeper → Kept → Part → After
after_open_part setting deeper kept (Piece bytes) = quiet (record kept { buffer = with_piece kept.buffer bytes })
after_open_part setting deeper kept (Order command) = after_command setting deeper kept command

-- a part of a line, which does nothing where the session was ended before it
unfoldable pub after_part : Setting → Deeper → Kept → Part → After
after_part setting deeper kept part = elim kept.quit [ true ↦ quiet kept | false ↦ after_open_part setting deeper kept part ]

-- the parts of a line, in order
unfoldable pub after_line : Setting → Deeper → Kept → List ℕ → After
after_line setting deeper kept line = over (after_part setting deeper) kept (parts_of line)

-- lines, in order
unfoldable pub after_lines : Setting → Deeper → Kept → List (List ℕ) → After
after_lines setting deeper kept lines = over (after_line setting deeper) kept lines

-- how a file is read that is included here, where files may be included within each other so deep
unfoldable pub files_within : ℕ → Setting → Deeper
files_within zero setting = None
files_within (suc depth) setting = Some (λ kept bytes. after_lines setting (files_within depth setting) kept (lines_of bytes))
