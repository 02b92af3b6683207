-- The lines of a text.
use Rattle.std.specs.Prelude.{ℕ, ◌==◌, Bool, not, if◌then◌else◌, List, [], ◌∷◌, filter}
use Rattle.std.specs.Io.BufRead.{ends_with_byte}

-- the byte in front of the first line; where there is none it is a line by itself
abbrev pub onto_first : ℕ → List (List ℕ) → List (List ℕ)
onto_first b [] = (b ∷ []) ∷ []
onto_first b (line ∷ lines) = (b ∷ line) ∷ lines

-- the byte in front of these lines: a newline is a line by itself
abbrev pub before_lines : ℕ → List (List ℕ) → List (List ℕ)
before_lines b lines = if b == 10 then (b ∷ []) ∷ lines else onto_first b lines

-- the lines of a text, each up to and with its newline, which the last may lack
unfoldable pub lines_of : List ℕ → List (List ℕ)
lines_of [] = []
lines_of (b ∷ bs) = before_lines b (lines_of bs)

-- the lines that lie wholly in a text, each with its newline
abbrev pub whole_lines : List ℕ → List (List ℕ)
whole_lines text = filter (ends_with_byte 10) (lines_of text)

-- the byte is no newline
abbrev pub is_no_newline : ℕ → Bool
is_no_newline b = not (b == 10)
