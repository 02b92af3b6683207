-- What the first stage reads.
use Rattle.std.specs.Prelude.{◌≡◌, ℕ, ◌+◌, nat_le, nat_lt, ◌&&◌, Bool, true, false, List, [], ◌∷◌, Some, None}
use Rattle.std.specs.declared.option.Option.{Option}
use Rattle.fault_io.specs.Files.{Files, stored}
use Rattle.network_meaning.specs.Sorts.{Event.goes_on, Event.sends, Event.leaves, Read}
use Rattle.quel_meaning.specs.Monitor.{Part}
use Rattle.quel_meaning.specs.Running.{most_included}
use Rattle.quel_meaning.specs.Session.{greatest_depth}
use Rattle.quel_network.specs.Reading.{Standing, read, read_parts}
use Rattle.quel_network.specs.Sorts.{Monitor, quel_sorts}
use Rattle.monitor.specs.declared.event.Event.{Event as Came}
use Rattle.monitor.specs.declared.event.Event.TheVariants as came

-- what a line works on, where this was printed
abbrev pub standing_of : Monitor → Files → List ℕ → Standing
standing_of m shelf bytes = record { buffer = m.buffer; included = m.included; files = m.files; shelf = shelf; bytes = bytes }

-- what was read, where reading on ends so
abbrev pub was_read : Came → Monitor → Files → List ℕ → List ℕ → Read quel_sorts
was_read came.GoesOn m shelf bytes script = record { monitor = m; script = script; shelf = shelf; bytes = bytes; event = goes_on }
was_read came.Sends m shelf bytes script = record { monitor = m; script = script; shelf = shelf; bytes = bytes; event = sends m.buffer.text }
was_read came.Leaves m shelf bytes script = record { monitor = m; script = script; shelf = shelf; bytes = bytes; event = leaves }
was_read (came.Stores name) m shelf bytes script = record { monitor = m; script = script; shelf = stored shelf name m.buffer.text; bytes = bytes; event = goes_on }

-- what is read on of the rest of a line, behind what was printed
abbrev pub reads_rest : Monitor → Files → List ℕ → List ℕ → Read quel_sorts
reads_rest m shelf bytes script = read_parts (standing_of m shelf bytes) script m.parts

-- what is read of a part and the rest of its line, behind what was printed
abbrev pub reads_part : Part → Monitor → Files → List ℕ → List ℕ → Read quel_sorts
reads_part part m shelf bytes script = read_parts (standing_of m shelf bytes) script (part ∷ m.parts)

-- what is read behind a part: the rest of the line, or no more
abbrev pub reads_behind : Option Came → Monitor → Files → List ℕ → List ℕ → Read quel_sorts
reads_behind None m shelf bytes script = reads_rest m shelf bytes script
reads_behind (Some event) m shelf bytes script = was_read event m shelf bytes script

-- a file of so many bytes may be included, where so many bytes were and so many included files are open
abbrev pub may_open : ℕ → ℕ → ℕ → Bool
may_open bytes included open_files = nat_lt open_files greatest_depth && nat_le (included + bytes) most_included

-- of this script a line is at hand, of which the rest is read, or it has ended; this is left of it
abbrev pub Fills : Monitor → Files → List ℕ → Bool → Monitor → Option (List ℕ) → Type 0
Fills old shelf script true new left = (rest : List ℕ) × (left ≡ Some rest) × (read old script shelf ≡ reads_rest new shelf [] rest)
Fills old shelf script false new left = (rest : List ℕ) × (left ≡ Some rest) × (read old script shelf ≡ was_read came.Leaves new shelf [] rest)

-- the same of some script
abbrev pub MayFill : Monitor → Files → Bool → Monitor → Type 0
MayFill old shelf some new = (script : List ℕ) × (left : Option (List ℕ)) × Fills old shelf script some new left

-- this was read of this script, and this is left of it
abbrev pub HasRead : Monitor → Files → List ℕ → Came → Monitor → List ℕ → Option (List ℕ) → Type 0
HasRead old shelf script event new bytes left = (rest : List ℕ) × (left ≡ Some rest) × (read old script shelf ≡ was_read event new shelf bytes rest)

-- the same of some script
abbrev pub MayRead : Monitor → Files → Came → Monitor → List ℕ → Type 0
MayRead old shelf event new bytes = (script : List ℕ) × (left : Option (List ℕ)) × HasRead old shelf script event new bytes left
