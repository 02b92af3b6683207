-- The steps along a pattern from its written bytes.
use Rattle.std.specs.Prelude.{ℕ, suc, ◌≤◌, ◌≡◌, ◌↔◌, Bool, true, false, not, ◌==◌, ◌&&◌, ◌||◌, if◌then◌else◌, List, [], ◌∷◌, take, drop, Option, Some, None}
use Rattle.calculus.specs.Constant.{unescaped}
use Rattle.calculus.specs.Pattern.{Item, Byte, AnyByte, AnyText, Class, in_class, items_behind, bracket_items, is_bare, class_length}
use Rattle.calculus.specs.declared.unescaped.Unescaped.{Unescaped}

-- the items that are written, where no bare blanks stand at the end
unfoldable pub written_items : List ℕ → List Item
written_items written = items_behind 0 (unescaped written)

-- the items that a bare `[` begins, by what is written behind it
unfoldable pub bracket_written : List ℕ → List Item
bracket_written behind = bracket_items (λ k. items_behind k (unescaped behind)) (unescaped behind) (class_length (unescaped behind))

-- an item that stands for one byte takes this one; any text takes none
abbrev pub takes : Item → ℕ → Bool
takes (Byte b) x = x == b
takes AnyByte x = true
takes AnyText x = false
takes (Class rs) x = in_class rs x

-- the items behind the first, where that takes this byte
abbrev pub behind_byte : List Item → ℕ → Option (List Item)
behind_byte [] x = None
behind_byte (i ∷ is) x = if takes i x then Some is else None

-- the items behind the first, where that is any text
abbrev pub behind_any_text : List Item → Option (List Item)
behind_any_text [] = None
behind_any_text (Byte b ∷ is) = None
behind_any_text (AnyByte ∷ is) = None
behind_any_text (AnyText ∷ is) = Some is
behind_any_text (Class rs ∷ is) = None

-- behind a bare `[` stand the bytes of a class, then a bare `]`, then the rest
abbrev pub IsClass : List ℕ → List ℕ → List ℕ → Type 0
IsClass behind class rest = (n : ℕ) × (class_length (unescaped behind) ≡ Some n) × (take n (unescaped behind) ≡ unescaped class) × (drop (suc n) (unescaped behind) ≡ unescaped rest)

-- how many bytes the unescaped bytes are written with: two where a backslash makes the byte plain
abbrev pub width : List Unescaped → ℕ
width [] = 0
width (m ∷ ms) = if m.plain then suc (suc (width ms)) else suc (width ms)

-- no bare `]` follows exactly where at most `unclosed` bytes are left
unfoldable pub NoneCloses : ℕ → List Unescaped → Type 0
NoneCloses unclosed [] = Unit
NoneCloses unclosed (m ∷ ms) = ((width (m ∷ ms) ≤ unclosed) ↔ (class_length (m ∷ ms) ≡ None)) × NoneCloses unclosed ms

-- the byte behind a bare `-` that comes first, and what follows it
abbrev pub after_dash : List Unescaped → Option (Unescaped × List Unescaped)
after_dash [] = None
after_dash (n ∷ []) = None
after_dash (n ∷ o ∷ ms) = if is_bare 45 n then Some (o, ms) else None

-- where the first bare `]` stands, counted on from `at`; the flag says that a backslash stands in front
abbrev pub close_from : ℕ → Bool → List ℕ → Option ℕ
close_from at escaped [] = None
close_from at escaped (b ∷ bs) = if not escaped && (b == 93) then Some at else close_from (suc at) (not escaped && (b == 92)) bs

-- how many bytes are kept where the bare blanks at the end are dropped: those up to the last byte that is no bare blank; so far `kept` of `at`
abbrev pub kept_from : ℕ → ℕ → Bool → List ℕ → ℕ
kept_from at kept escaped [] = kept
kept_from at kept escaped (b ∷ bs) =
    kept_from (suc at) (if escaped || not (b == 32) then suc at else kept) (not escaped && (b == 92)) bs
