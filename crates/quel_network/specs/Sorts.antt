-- What the four stages of this program speak about.
use Rattle.std.specs.Prelude.{ℕ, List, []}
use Rattle.calculus.specs.declared.change.DbChange.{DbChange}
use Rattle.calculus.specs.declared.reply.Column.{Column}
use Rattle.calculus.specs.declared.reply.Refusal.{Refusal}
use Rattle.calculus.specs.declared.request.Checked.{Checked}
use Rattle.calculus.specs.declared.statement.Statement.{Statement}
use Rattle.calculus.specs.Database.{Db}
use Rattle.calculus.specs.Rows.{Row}
use Rattle.calculus.specs.Who.{Asker}
use Rattle.fault_io.specs.Files.{Files}
use Rattle.network_meaning.specs.Sorts.{Sorts}
use Rattle.quel_grammar.specs.Next.{Reading, IsGrammatical}
use Rattle.quel_meaning.specs.Buffer.{Buffer, empty_buffer}
use Rattle.quel_meaning.specs.Monitor.{Part}
use Rattle.quel_meaning.specs.OpenFiles.{OpenFiles}
use Rattle.quel_meaning.specs.Ranges.{Ranges}

-- where the monitor stands in a script: its buffer, the bytes of all files that were included, what is left of the present line, and the lines that are left of each file that is included, the innermost first
pub record Monitor : Type 0 where
  pub buffer : Buffer
  pub included : ℕ
  pub parts : List Part
  pub files : OpenFiles

-- the monitor at the start
abbrev pub first_monitor : Monitor
first_monitor = record { buffer = empty_buffer; included = 0; parts = []; files = [] }

-- a batch that is worked off: its text, and the place from which on it is left
pub record Batch : Type 0 where
  pub text : List ℕ
  pub from : ℕ

-- a database, files, a script as its bytes, and what travels: a batch as its bytes, trees, changes, columns, rows and refusals
abbrev pub quel_sorts : Sorts
quel_sorts = record {
  Db = Db;
  Shelf = Files;
  Script = List ℕ;
  Monitor = Monitor;
  Ranges = Ranges;
  Batch = Batch;
  Text = List ℕ;
  Statement = Statement;
  Tree = Checked;
  Change = DbChange;
  Head = List Column;
  Row = Row;
  Refusal = Refusal;
}

-- whom the stages serve: one who asks, and how texts are read, which the grammar allows
pub record User : Type 0 where
  pub asker : Asker
  pub reading : Reading
  pub grammatical : IsGrammatical reading
