-- The parts of a line of a script: pieces of text, and commands of the monitor.
use Rattle.std.specs.Prelude.{ℕ, ◌==◌, nat_le, Bool, true, false, not, ◌&&◌, if◌then◌else◌, List, [], ◌∷◌, take, drop, find, codes, option_map, unwrap_or}
use Rattle.std.specs.List.{prefix_len}
use Rattle.std.specs.Str.{bytes_eq}
use Rattle.quel_grammar.specs.Lexer.{is_white}

-- ---- commands

-- a command of the monitor
pub data Command : Type 0 where
  Go : Command
  Print : Command
  Reset : Command
  Append : Command
  Quit : Command
  Include : List ℕ → Command
  Write : List ℕ → Command
  Unknown : Command

-- the byte in front of the others, but white space in front of nothing is dropped
abbrev pub before_stripped : ℕ → List ℕ → List ℕ
before_stripped b [] = if is_white b then [] else b ∷ []
before_stripped b (c ∷ bs) = b ∷ c ∷ bs

-- the bytes without the white space at their end
abbrev pub stripped_at_end : List ℕ → List ℕ
stripped_at_end [] = []
stripped_at_end (b ∷ bs) = before_stripped b (stripped_at_end bs)

-- the bytes without the white space at their front
abbrev pub stripped_at_front : List ℕ → List ℕ
stripped_at_front [] = []
stripped_at_front (b ∷ bs) = if is_white b then stripped_at_front bs else b ∷ bs

-- the name of the file that the rest of a line gives: its bytes without white space at both ends
unfoldable pub file_name : List ℕ → List ℕ
file_name rest = stripped_at_end (stripped_at_front rest)

-- the words of the commands, where this is the name of a file
abbrev pub words : List ℕ → List (List ℕ × Command)
words file =
    (codes "g", Go) ∷ (codes "go", Go) ∷ (codes "p", Print) ∷ (codes "print", Print) ∷ (codes "r", Reset) ∷ (codes "reset", Reset)
    ∷ (codes "a", Append) ∷ (codes "append", Append) ∷ (codes "q", Quit) ∷ (codes "quit", Quit)
    ∷ (codes "i", Include file) ∷ (codes "include", Include file) ∷ (codes "w", Write file) ∷ (codes "write", Write file) ∷ []

-- the command of this word, with the rest of its line behind it
unfoldable pub command_of : List ℕ → List ℕ → Command
command_of word rest = unwrap_or (option_map (λ c. c.1) (find (λ c. bytes_eq c.0 word) (words (file_name rest)))) Unknown

-- the command takes the rest of its line as the name of a file
abbrev pub names_file : Command → Bool
names_file Go = false
names_file Print = false
names_file Reset = false
names_file Append = false
names_file Quit = false
names_file (Include file) = true
names_file (Write file) = true
names_file Unknown = false

-- ---- where a command begins

-- what the bytes of a line up to a place leave open: nothing, a text constant, or one whose last byte is a backslash that takes the next byte with it
pub data Quoting : Type 0 where
  Plain : Quoting
  Quoted : Quoting
  Escaped : Quoting

-- what is open behind a byte; a text constant begins and ends with a quote
abbrev pub quoting_after : Quoting → ℕ → Quoting
quoting_after Plain b = if b == 34 then Quoted else Plain
quoting_after Quoted b = if b == 34 then Plain else if b == 92 then Escaped else Quoted
quoting_after Escaped b = Quoted

-- a backslash outside text constants begins a command
abbrev pub begins_command : Quoting → ℕ → Bool
begins_command Plain b = b == 92
begins_command Quoted b = false
begins_command Escaped b = false

-- no command begins in these bytes, where this is open before them
abbrev pub has_no_command : Quoting → List ℕ → Bool
has_no_command quoting [] = true
has_no_command quoting (b ∷ bs) = not (begins_command quoting b) && has_no_command (quoting_after quoting b) bs

-- what is open behind these bytes, where this is open before them
abbrev pub quoting_behind : Quoting → List ℕ → Quoting
quoting_behind quoting [] = quoting
quoting_behind quoting (b ∷ bs) = quoting_behind (quoting_after quoting b) bs

-- a letter a to z
abbrev pub is_command_letter : ℕ → Bool
is_command_letter b = nat_le 97 b && nat_le b 122

-- ---- parts

-- a part of a line: a piece of text, or a command
pub data Part : Type 0 where
  Piece : List ℕ → Part
  Order : Command → Part

-- the byte in front of the first piece; where no piece comes first it is a piece by itself
abbrev pub onto_piece : ℕ → List Part → List Part
onto_piece b [] = Piece (b ∷ []) ∷ []
onto_piece b (Piece bytes ∷ parts) = Piece (b ∷ bytes) ∷ parts
onto_piece b (Order command ∷ parts) = Piece (b ∷ []) ∷ Order command ∷ parts

-- a piece in front of these parts, if it has a byte
abbrev pub before_parts : List ℕ → List Part → List Part
before_parts [] parts = parts
before_parts (b ∷ bytes) parts = Piece (b ∷ bytes) ∷ parts

-- the parts without so many bytes at the front of their first piece
abbrev pub without_front : ℕ → List Part → List Part
without_front n [] = []
without_front n (Piece bytes ∷ parts) = before_parts (drop n bytes) parts
without_front n (Order command ∷ parts) = Order command ∷ parts

-- a command, and the parts behind it; where it took the rest of the line there are none
abbrev pub order_before : Command → List Part → List Part
order_before command parts = Order command ∷ (if names_file command then [] else parts)

-- the length of a command's word: as many letters as stand behind its backslash
abbrev pub word_length : List ℕ → ℕ
word_length bytes = prefix_len is_command_letter bytes

-- the parts from a command's backslash on, where these bytes and these parts stand behind it
abbrev pub command_at : List ℕ → List Part → List Part
command_at bytes parts =
    order_before (command_of (take (word_length bytes) bytes) (drop (word_length bytes) bytes)) (without_front (word_length bytes) parts)

-- the parts from a byte on that begins a command or doesn't, where these bytes and these parts stand behind it
abbrev pub parts_at : Bool → ℕ → List ℕ → List Part → List Part
parts_at true b bytes parts = command_at bytes parts
parts_at false b bytes parts = onto_piece b parts

-- the parts of the rest of a line, where this is open
unfoldable pub parts_from : Quoting → List ℕ → List Part
parts_from quoting [] = []
parts_from quoting (b ∷ bs) = parts_at (begins_command quoting b) b bs (parts_from (quoting_after quoting b) bs)

-- the parts of a line
abbrev pub parts_of : List ℕ → List Part
parts_of line = parts_from Plain line
