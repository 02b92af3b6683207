-- The patterns that texts are matched against.
use Rattle.std.specs.Prelude.{ℕ, zero, suc, Bool, true, false, not, ◌&&◌, ◌||◌, if◌then◌else◌, nat_le, ◌==◌, ◌≡◌, List, [], ◌∷◌, ◌++◌, take, Option, Some, None, IsTrue}
use Rattle.std.specs.List.{list_any}
use Rattle.calculus.specs.Constant.{unescaped}
use Rattle.calculus.specs.declared.unescaped.Unescaped.{Unescaped}

-- ---- the items of a pattern

-- what a pattern is made of
pub data Item : Type 0 where
  Byte : ℕ → Item
  AnyByte : Item
  AnyText : Item
  Class : List (ℕ × ℕ) → Item

-- this byte, with no backslash in front
abbrev pub is_bare : ℕ → Unescaped → Bool
is_bare b m = (m.byte == b) && not m.plain

-- the byte in front of the others, but a bare blank in front of nothing is dropped
abbrev pub before_unpadded : Unescaped → List Unescaped → List Unescaped
before_unpadded m [] = if is_bare 32 m then [] else m ∷ []
before_unpadded m (n ∷ ms) = m ∷ n ∷ ms

-- without the bare blanks at the end
abbrev pub unpadded : List Unescaped → List Unescaped
unpadded [] = []
unpadded (m ∷ ms) = before_unpadded m (unpadded ms)

-- one more, where there is a number
abbrev pub one_more : Option ℕ → Option ℕ
one_more None = None
one_more (Some n) = Some (suc n)

-- how many bytes stand in front of the first bare `]`
abbrev pub class_length : List Unescaped → Option ℕ
class_length [] = None
class_length (m ∷ ms) = elim (is_bare 93 m) [ true ↦ Some 0 | false ↦ one_more (class_length ms) ]

-- the members of a class from left to right: a byte, a bare `-` and a byte are a range, any other byte is a range of one
abbrev pub ranges : List Unescaped → List (ℕ × ℕ)
ranges [] = []
ranges (m ∷ []) = (m.byte, m.byte) ∷ []
ranges (m ∷ n ∷ []) = (m.byte, m.byte) ∷ (n.byte, n.byte) ∷ []
ranges (m ∷ n ∷ o ∷ ms) = elim (is_bare 45 n) [ true ↦ (m.byte, o.byte) ∷ ranges ms | false ↦ (m.byte, m.byte) ∷ ranges (n ∷ o ∷ ms) ]

-- what a bare `[` begins: the class up to the `]`, or the byte itself where none follows
abbrev pub bracket_items : (ℕ → List Item) → List Unescaped → Option ℕ → List Item
bracket_items behind ms None = Byte 91 ∷ behind 0
bracket_items behind ms (Some n) = Class (ranges (take n ms)) ∷ behind (suc n)

-- the items from this byte on, where `behind k` are those behind the next k bytes
abbrev pub items_at : (ℕ → List Item) → Unescaped → List Unescaped → List Item
items_at behind m ms =
    if is_bare 42 m then AnyText ∷ behind 0
    else (if is_bare 63 m then AnyByte ∷ behind 0
    else (if is_bare 91 m then bracket_items behind ms (class_length ms)
    else Byte m.byte ∷ behind 0))

-- the items behind the first k bytes
abbrev pub items_behind : ℕ → List Unescaped → List Item
items_behind k [] = []
items_behind zero (m ∷ ms) = items_at (λ k. items_behind k ms) m ms
items_behind (suc k) (m ∷ ms) = items_behind k ms

-- the items of a pattern
unfoldable pub items : List ℕ → List Item
items pattern = items_behind 0 (unpadded (unescaped pattern))

-- ---- matching

-- within one of the ranges
abbrev pub in_class : List (ℕ × ℕ) → ℕ → Bool
in_class rs x = list_any (λ r. nat_le r.0 x && nat_le x r.1) rs

-- a text fits items, by the first of them: the end is the empty text; a byte is that byte, then the rest; any byte, one byte; any text, some front; a class, one byte that is in it
abbrev pub Fits : List Item → List ℕ → Type 0
Fits [] text = text ≡ []
Fits (Byte b ∷ is) text = (rest : List ℕ) × (text ≡ b ∷ rest) × Fits is rest
Fits (AnyByte ∷ is) text = (x : ℕ) × (rest : List ℕ) × (text ≡ x ∷ rest) × Fits is rest
Fits (AnyText ∷ is) text = (front rest : List ℕ) × (text ≡ front ++ rest) × Fits is rest
Fits (Class rs ∷ is) text = (x : ℕ) × (rest : List ℕ) × (text ≡ x ∷ rest) × IsTrue (in_class rs x) × Fits is rest

-- a text matches a pattern
unfoldable pub Matches : List ℕ → List ℕ → Type 0
Matches pattern text = Fits (items pattern) text

-- the test holds of the list, or of the list without some bytes at its front
abbrev pub some_rest : (List ℕ → Bool) → List ℕ → Bool
some_rest f [] = f []
some_rest f (x ∷ xs) = f (x ∷ xs) || some_rest f xs

-- whether a text fits items: the test for `Fits`
unfoldable pub fits_items : List Item → List ℕ → Bool
fits_items [] [] = true
fits_items [] (x ∷ xs) = false
fits_items (Byte b ∷ is) [] = false
fits_items (Byte b ∷ is) (x ∷ xs) = (x == b) && fits_items is xs
fits_items (AnyByte ∷ is) [] = false
fits_items (AnyByte ∷ is) (x ∷ xs) = fits_items is xs
fits_items (AnyText ∷ is) xs = some_rest (fits_items is) xs
fits_items (Class rs ∷ is) [] = false
fits_items (Class rs ∷ is) (x ∷ xs) = in_class rs x && fits_items is xs

-- whether a text matches a pattern: the test for `Matches`
unfoldable pub matches : List ℕ → List ℕ → Bool
matches pattern text = fits_items (items pattern) text
