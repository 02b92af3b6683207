-- What a text is.
use Rattle.std.specs.Prelude.{ℕ, Bool, true, List, [], ◌∷◌, length, nat_le, ◌&&◌, ◌==◌, not, Option, Some, None, if◌then◌else◌}
use Rattle.std.specs.List.{list_all}
use Rattle.calculus.specs.Chars.{is_printable, is_chars}

-- a blank
abbrev pub is_blank : ℕ → Bool
is_blank b = b == 32

-- the last byte, where there is one, is no blank
abbrev pub ends_without_blank : List ℕ → Bool
ends_without_blank [] = true
ends_without_blank (b ∷ []) = not (is_blank b)
ends_without_blank (b ∷ c ∷ bs) = ends_without_blank (c ∷ bs)

-- at most 255 bytes from 32 to 126, the last of them no blank
unfoldable pub is_text : List ℕ → Bool
is_text bytes = is_chars bytes && ends_without_blank bytes

-- the byte in front of the others, but a blank in front of nothing is dropped
abbrev pub before_trimmed : ℕ → List ℕ → List ℕ
before_trimmed b [] = if is_blank b then [] else b ∷ []
before_trimmed b (c ∷ bs) = b ∷ c ∷ bs

-- the bytes without the blanks at their end
abbrev pub trimmed : List ℕ → List ℕ
trimmed [] = []
trimmed (b ∷ bs) = before_trimmed b (trimmed bs)

-- the text of these bytes: none where a byte is outside 32 to 126, or where more than 255 are left without the blanks at the end
unfoldable pub text_of : List ℕ → Option (List ℕ)
text_of bytes = if list_all is_printable bytes && nat_le (length (trimmed bytes)) 255 then Some (trimmed bytes) else None
