-- How the monitor reads on: where it stands in a script, and what it comes to.
use Rattle.std.specs.Prelude.{ℕ, ◌+◌, nat_le, nat_lt, true, false, ◌&&◌, List, [], ◌∷◌, ◌++◌, length, Option, Some, None}
use Rattle.std.specs.List.{concat}
use Rattle.fault_io.specs.Files.{Files, fetched, stored}
use Rattle.quel_meaning.specs.Buffer.{Buffer, with_piece, buffer_after}
use Rattle.quel_meaning.specs.Lines.{lines_of}
use Rattle.quel_meaning.specs.Monitor.{Command, Go, Print, Reset, Append, Quit, Include, Write, Unknown, Part, Piece, Order, parts_of}
use Rattle.quel_meaning.specs.OpenFiles.{OpenFiles}
use Rattle.quel_meaning.specs.Printed.{refusal_bytes}
use Rattle.quel_meaning.specs.Running.{most_included}
use Rattle.quel_meaning.specs.Session.{greatest_depth}
use Rattle.network_meaning.specs.Sorts.{Event, Event.goes_on, Event.sends, Event.leaves, Read}
use Rattle.quel_network.specs.Sorts.{Monitor, quel_sorts}

-- what a line works on: the buffer, the bytes of all files that were included, those that are open, the files by their names, and what was printed
pub record Standing : Type 0 where
  pub buffer : Buffer
  pub included : ℕ
  pub files : OpenFiles
  pub shelf : Files
  pub bytes : List ℕ

-- this is printed
abbrev pub says : Standing → List ℕ → Standing
says s bytes = record s { bytes = s.bytes ++ bytes }

-- a command is refused by this number
abbrev pub refuses : Standing → ℕ → Standing
refuses s code = says s (refusal_bytes (record { code = code; line = 0; row = 0 }))

-- the file of these bytes is the innermost open one, where so many may be open and so many bytes be included
abbrev pub opens : Standing → List ℕ → Standing
opens s bytes = elim (nat_lt (length s.files) greatest_depth && nat_le (s.included + length bytes) most_included) [
  | true ↦ record s { included = s.included + length bytes; files = lines_of bytes ∷ s.files }
  | false ↦ refuses s 3
]

-- the file of a name is opened, where it is there
abbrev pub includes : Standing → Option (List ℕ) → Standing
includes s None = refuses s 32
includes s (Some bytes) = opens s bytes

-- what a command does that neither sends the buffer nor ends the session
unfoldable pub ordered : Standing → Command → Standing
ordered s Go = s
ordered s Print = says s s.buffer.text
ordered s Reset = record s { buffer = buffer_after Reset s.buffer }
ordered s Append = record s { buffer = buffer_after Append s.buffer }
ordered s Quit = s
ordered s (Include []) = refuses s 2
ordered s (Include (b ∷ bs)) = includes s (fetched s.shelf (b ∷ bs))
ordered s (Write []) = refuses s 2
ordered s (Write (b ∷ bs)) = record s { shelf = stored s.shelf (b ∷ bs) s.buffer.text }
ordered s Unknown = refuses s 2

-- the monitor stands here, with this left of the line
abbrev pub stands : Standing → List Part → Monitor
stands s parts = record { buffer = s.buffer; included = s.included; parts = parts; files = s.files }

-- what was read, with this left of the line and this of the script
abbrev pub comes_to : Standing → List ℕ → List Part → Event quel_sorts → Read quel_sorts
comes_to s script parts event = record { monitor = stands s parts; script = script; shelf = s.shelf; bytes = s.bytes; event = event }

-- the parts of a line up to and with the first command that sends the buffer or ends the session; without one, all of them
unfoldable pub read_parts : Standing → List ℕ → List Part → Read quel_sorts
read_parts s script [] = comes_to s script [] goes_on
read_parts s script (Piece bytes ∷ parts) = read_parts (record s { buffer = with_piece s.buffer bytes }) script parts
read_parts s script (Order Go ∷ parts) = comes_to (record s { buffer = buffer_after Go s.buffer }) script parts (sends s.buffer.text)
read_parts s script (Order Quit ∷ parts) = comes_to s script parts leaves
read_parts s script (Order Print ∷ parts) = read_parts (ordered s Print) script parts
read_parts s script (Order Reset ∷ parts) = read_parts (ordered s Reset) script parts
read_parts s script (Order Append ∷ parts) = read_parts (ordered s Append) script parts
read_parts s script (Order (Include file) ∷ parts) = comes_to (ordered s (Include file)) script [] goes_on
read_parts s script (Order (Write file) ∷ parts) = comes_to (ordered s (Write file)) script [] goes_on
read_parts s script (Order Unknown ∷ parts) = read_parts (ordered s Unknown) script parts

-- nothing is printed yet
abbrev pub standing : Monitor → OpenFiles → Files → Standing
standing m files shelf = record { buffer = m.buffer; included = m.included; files = files; shelf = shelf; bytes = [] }

-- the next line is that of the script; where it has none, the monitor leaves
abbrev pub read_script : Monitor → Files → List (List ℕ) → Read quel_sorts
read_script m shelf [] = comes_to (standing m [] shelf) [] [] leaves
read_script m shelf (line ∷ lines) = read_parts (standing m [] shelf) (concat lines) (parts_of line)

-- the next line is that of the innermost open file that has one left, and the script is the outermost
abbrev pub read_line : Monitor → List ℕ → Files → OpenFiles → Read quel_sorts
read_line m script shelf [] = read_script m shelf (lines_of script)
read_line m script shelf ([] ∷ files) = read_line m script shelf files
read_line m script shelf ((line ∷ lines) ∷ files) = read_parts (standing m (lines ∷ files) shelf) script (parts_of line)

-- what is left of the present line is read; where nothing is, the next line
abbrev pub read_on : Monitor → List ℕ → Files → List Part → Read quel_sorts
read_on m script shelf [] = read_line m script shelf m.files
read_on m script shelf (part ∷ parts) = read_parts (standing m m.files shelf) script (part ∷ parts)

-- what the monitor reads at once
unfoldable pub read : Monitor → List ℕ → Files → Read quel_sorts
read m script shelf = read_on m script shelf m.parts
