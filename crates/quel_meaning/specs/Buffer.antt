-- The query buffer: the text that the monitor collects, and what pieces and commands make of it.
use Rattle.std.specs.Prelude.{ℕ, Bool, true, false, if◌then◌else◌, List, [], ◌∷◌, ◌++◌}
use Rattle.std.specs.List.{list_all}
use Rattle.std.specs.Io.BufRead.{ends_with_byte}
use Rattle.quel_grammar.specs.Lexer.{is_white}
use Rattle.quel_meaning.specs.Monitor.{Command, Go, Print, Reset, Append, Quit, Include, Write, Unknown}

-- the query buffer: its bytes, and the mark that they ran, so that the next piece begins a new text
pub record Buffer : Type 0 where
  pub text : List ℕ
  pub ran : Bool

-- nothing is in the buffer
abbrev pub empty_buffer : Buffer
empty_buffer = record { text = []; ran = false }

-- the piece with a newline at its end
abbrev pub with_newline : List ℕ → List ℕ
with_newline piece = if ends_with_byte 10 piece then piece else piece ++ 10 ∷ []

-- what a piece begins with: the bytes of the buffer, or nothing where these ran
abbrev pub kept_text : Buffer → List ℕ
kept_text buffer = if buffer.ran then [] else buffer.text

-- the buffer with a piece behind what it keeps; a piece of white space alone is dropped
unfoldable pub with_piece : Buffer → List ℕ → Buffer
with_piece buffer piece = if list_all is_white piece then buffer else record { text = kept_text buffer ++ with_newline piece; ran = false }

-- the buffer after a command: one that sends it sets the mark, one that empties it and one that lets it grow take the mark off
unfoldable pub buffer_after : Command → Buffer → Buffer
buffer_after Go buffer = record { text = buffer.text; ran = true }
buffer_after Reset buffer = empty_buffer
buffer_after Append buffer = record { text = buffer.text; ran = false }
buffer_after Print buffer = buffer
buffer_after Quit buffer = buffer
buffer_after (Include file) buffer = buffer
buffer_after (Write file) buffer = buffer
buffer_after Unknown buffer = buffer
