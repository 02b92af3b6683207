-- Text constants: what stands between the quotes, and what it means.
use Rattle.std.specs.Prelude.{ℕ, Bool, true, false, ◌==◌, List, [], ◌∷◌}
use Rattle.calculus.specs.Text.{trimmed}
use Rattle.calculus.specs.declared.unescaped.Unescaped.{Unescaped}

-- a byte of a constant, and whether a backslash in front makes it plain
abbrev pub unescaped_byte : ℕ → Bool → Unescaped
unescaped_byte byte plain = record { byte = byte; plain = plain }

-- the bytes of a constant as they are meant: a backslash makes the byte behind it plain, and stands for itself at the end; the flag says that a backslash stands in front
abbrev pub unescaped_behind : Bool → List ℕ → List Unescaped
unescaped_behind true [] = unescaped_byte 92 false ∷ []
unescaped_behind false [] = []
unescaped_behind true (b ∷ bs) = unescaped_byte b true ∷ unescaped_behind false bs
unescaped_behind false (b ∷ bs) = elim (b == 92) [ true ↦ unescaped_behind true bs | false ↦ unescaped_byte b false ∷ unescaped_behind false bs ]

-- the bytes of a constant as they are meant
unfoldable pub unescaped : List ℕ → List Unescaped
unescaped bytes = unescaped_behind false bytes

-- the bytes alone
abbrev pub plain_bytes : List Unescaped → List ℕ
plain_bytes [] = []
plain_bytes (m ∷ ms) = m.byte ∷ plain_bytes ms

-- the text of a constant: its bytes with escapes removed, without the blanks at their end
unfoldable pub constant_text : List ℕ → List ℕ
constant_text bytes = trimmed (plain_bytes (unescaped bytes))
