-- Worked examples of lines and of their parts, computed.
use Rattle.std.proofs.Common.{◌≡◌, refl, [], ◌∷◌}
use Rattle.std.specs.Prelude.{codes}
use Rattle.quel_meaning.specs.Lines.{lines_of}
use Rattle.quel_meaning.specs.Monitor.{file_name, command_of, parts_from, parts_of, Piece, Order, Go, Print, Reset, Append, Quit, Include, Write, Unknown}

lines : lines_of (codes "a\n\nb") ≡ codes "a\n" ∷ codes "\n" ∷ codes "b" ∷ []
unfolding lines_of
lines = refl

-- commands stand anywhere in a line; letters go on as long as they are letters, and what isn't a letter is a piece
commands : parts_of (codes "x \\g y \\pp\\\\G\n") ≡ Piece (codes "x ") ∷ Order Go ∷ Piece (codes " y ") ∷ Order Unknown ∷ Order Unknown ∷ Order Unknown ∷ Piece (codes "G\n") ∷ []
unfolding parts_from command_of file_name
commands = refl

-- in a text constant a backslash takes the next byte with it; a constant that isn't closed ends with its line
constants : parts_of (codes "\"\\\"\\g\"\\p\"\\g\n") ≡ Piece (codes "\"\\\"\\g\"") ∷ Order Print ∷ Piece (codes "\"\\g\n") ∷ []
unfolding parts_from command_of file_name
constants = refl

-- a command with a file takes the rest of its line
files : parts_of (codes "\\i  my \\q\"file \t\n") ≡ Order (Include (codes "my \\q\"file")) ∷ []
unfolding parts_from command_of file_name
files = refl

-- long and short words are the same commands
words : parts_of (codes "\\go\\print\\reset\\append\\quit\\write w") ≡ Order Go ∷ Order Print ∷ Order Reset ∷ Order Append ∷ Order Quit ∷ Order (Write (codes "w")) ∷ []
unfolding parts_from command_of file_name
words = refl

-- a file without a name
no_name : parts_of (codes "\\include\n") ≡ Order (Include []) ∷ []
unfolding parts_from command_of file_name
no_name = refl

-- a backslash at the end of a line, in a text constant and outside
last_backslash : parts_of (codes "\"\\") ≡ Piece (codes "\"\\") ∷ []
unfolding parts_from command_of file_name
last_backslash = refl

bare : parts_of (codes "\\") ≡ Order Unknown ∷ []
unfolding parts_from command_of file_name
bare = refl
