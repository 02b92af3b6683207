-- The commands and the parts of a line, as the definitions of the monitor have them.
use Rattle.std.specs.Prelude.{ℕ, List}
use Rattle.quel_meaning.specs.Monitor.{Command, Go, Print, Reset, Append, Quit, Include, Write, Unknown, Part, Piece, Order, Quoting, Plain, Quoted, Escaped}
use Rattle.monitor.specs.declared.command.Command.{Command as Made}
use Rattle.monitor.specs.declared.command.Command.TheVariants as made
use Rattle.monitor.specs.declared.command.Word.{Word}
use Rattle.monitor.specs.declared.command.Word.TheVariants as word
use Rattle.monitor.specs.declared.line.Part.{Part as MadePart}
use Rattle.monitor.specs.declared.line.Part.TheVariants as parts
use Rattle.monitor.specs.declared.line.Quoting.{Quoting as MadeQuoting}
use Rattle.monitor.specs.declared.line.Quoting.TheVariants as quotings

-- a command
abbrev pub seen_command : Made → Command
seen_command made.Go = Go
seen_command made.Print = Print
seen_command made.Reset = Reset
seen_command made.Append = Append
seen_command made.Quit = Quit
seen_command (made.Include file) = Include file
seen_command (made.Write file) = Write file
seen_command made.Unknown = Unknown

-- the command that a word of the table says, where this is the name of a file
abbrev pub given : List ℕ → Word → Command
given file word.Go = Go
given file word.Print = Print
given file word.Reset = Reset
given file word.Append = Append
given file word.Quit = Quit
given file word.Include = Include file
given file word.Write = Write file

-- a part of a line
abbrev pub seen_part : MadePart → Part
seen_part (parts.Piece bytes) = Piece bytes
seen_part (parts.Order command) = Order (seen_command command)

-- what is left open
abbrev pub seen_quoting : MadeQuoting → Quoting
seen_quoting quotings.Plain = Plain
seen_quoting quotings.Quoted = Quoted
seen_quoting quotings.Escaped = Escaped
