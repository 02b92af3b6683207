-- What is read of a batch: its statements, and where it is refused.
use Rattle.std.specs.Prelude.{◌≡◌, ℕ, zero, suc, ◌≤◌, ◌<◌, List, [], ◌∷◌, length, Option, Some, None}
use Rattle.calculus.specs.declared.statement.Statement.{Statement}
use Rattle.quel_grammar.specs.Next.{Next, Nothing, Read, Syntax, Reading, first_offset, line_at}

-- a statement, and the line of its first token
pub record StatementAt : Type 0 where
  pub statement : Statement
  pub line : ℕ

-- the statements of a batch in order, and the line of the syntax refusal behind them, if there is one
pub record Batch : Type 0 where
  pub statements : List StatementAt
  pub refused : Option ℕ

-- nothing is read
abbrev pub empty_batch : Batch
empty_batch = record { statements = []; refused = None }

-- a statement before what is read behind it
abbrev pub read_before : StatementAt → Batch → Batch
read_before first batch = record { statements = first ∷ batch.statements; refused = batch.refused }

-- a statement that is read from a place of a text on
abbrev pub statement_at : List ℕ → ℕ → Statement → StatementAt
statement_at text from statement = record { statement = statement; line = line_at text (first_offset text from) }

-- a batch that is refused at a place of its text
abbrev pub refused_at : List ℕ → ℕ → Batch
refused_at text place = record { statements = []; refused = Some (line_at text place) }

-- what is read of a text from a place on, where this is read next, and the rest from the end of a statement on
abbrev pub read_on : (ℕ → Batch) → List ℕ → ℕ → Next → Batch
read_on rest text from Nothing = empty_batch
read_on rest text from (Read statement end) = read_before (statement_at text from statement) (rest end)
read_on rest text from (Syntax place) = refused_at text place

-- what is read of a text from a place on, of at most so many statements
unfoldable pub read_within : ℕ → Reading → List ℕ → ℕ → Batch
read_within zero reading text from = empty_batch
read_within (suc n) reading text from = read_on (read_within n reading text) text from (reading text from)

-- what is read of a text from a place on: it has no more statements than bytes, since each has a byte
unfoldable pub batch_from : Reading → List ℕ → ℕ → Batch
batch_from reading text from = read_within (length text) reading text from

-- what is read of a batch
abbrev pub batch_of : Reading → List ℕ → Batch
batch_of reading text = batch_from reading text 0

-- each statement that is read of the text ends behind the place from which it is read, and nothing is read from its end on
pub record MovesOn (reading : Reading) (text : List ℕ) : Type 0 where
  pub advances : (from : ℕ) (statement : Statement) (end : ℕ) → reading text from ≡ Read statement end → from < end
  pub ends : (from : ℕ) → length text ≤ from → reading text from ≡ Nothing
