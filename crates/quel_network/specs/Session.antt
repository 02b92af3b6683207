-- What is left of a session: what it prints, the statements that run, and where it ends.
use Rattle.std.specs.Prelude.{ℕ, Bool, true, false, List, [], ◌∷◌, ◌++◌}
use Rattle.calculus.specs.Database.{Db}
use Rattle.fault_io.specs.Files.{Files}
use Rattle.quel_meaning.specs.Batch.{batch_from}
use Rattle.quel_meaning.specs.Happening.{Setting, Event, Wrote, Ran, Kept, After, and_then, over}
use Rattle.quel_meaning.specs.Lines.{lines_of}
use Rattle.quel_meaning.specs.Monitor.{Part, Piece, Order, order_before}
use Rattle.quel_meaning.specs.OpenFiles.{OpenFiles, included_in, after_files}
use Rattle.quel_meaning.specs.Ranges.{Ranges}
use Rattle.quel_meaning.specs.Running.{after_part, after_batch}
use Rattle.quel_meaning.specs.Session.{printed}
use Rattle.network_meaning.specs.Sorts.{Finished, SessionEnd}
use Rattle.quel_network.specs.Sorts.{Monitor, Batch, first_monitor, quel_sorts}

-- the statements that ran in these events
abbrev pub finished : List Event → List (Finished quel_sorts)
finished [] = []
finished (Wrote bytes ∷ events) = finished events
finished (Ran reply db ∷ events) = record { reply = reply; db = db; later = printed events } ∷ finished events

-- where a session ends that leaves this
abbrev pub end_of : After → SessionEnd quel_sorts
end_of a = record { db = a.kept.state.db; shelf = a.kept.state.shelf; quit = a.kept.quit }

-- nothing is left of the script
abbrev pub is_read : List ℕ → Bool
is_read [] = true
is_read (b ∷ bytes) = false

-- what is kept while no command is carried out
abbrev pub kept_at : Monitor → Db → Files → Ranges → Kept
kept_at m db shelf ranges = record { state = record { db = db; shelf = shelf; ranges = ranges }; buffer = m.buffer; included = m.included; quit = false }

-- the rest of a batch runs; what the monitor keeps has no part in it
unfoldable pub after_batch_at : Setting → Db → Files → Ranges → Batch → After
after_batch_at setting db shelf ranges b = after_batch setting (batch_from setting.reading b.text b.from) (kept_at first_monitor db shelf ranges)

-- the parts of a line; behind a command that names a file nothing stands
abbrev pub up_to_file : List Part → List Part
up_to_file [] = []
up_to_file (Piece bytes ∷ parts) = Piece bytes ∷ up_to_file parts
up_to_file (Order command ∷ parts) = order_before command (up_to_file parts)

-- the files that are open, the script as the outermost
abbrev pub open_files : Monitor → List ℕ → OpenFiles
open_files m script = m.files ++ lines_of script ∷ []

-- parts run, and then the lines that are left
abbrev pub after_parts : Setting → Kept → List Part → OpenFiles → After
after_parts setting kept parts files = and_then (over (after_part setting (included_in setting files)) kept parts) (λ k. after_files setting k files)

-- what is left of the line runs, and then all that is left of the script
unfoldable pub after_script_at : Setting → Db → Files → Ranges → Monitor → List ℕ → After
after_script_at setting db shelf ranges m script = after_parts setting (kept_at m db shelf ranges) (up_to_file m.parts) (open_files m script)
