-- A page of rows: which bytes are one, and its slots, its room and its next page.
use Rattle.std.specs.Prelude.{◌≡◌, ℕ, zero, suc, ◌+◌, ◌-◌, ◌*◌, ◌<◌, ◌≤◌, ◌==◌, nat_le, nat_lt, List, [], ◌∷◌, ◌++◌, Option, Some, None, is_none, length, position, sum_by, slice_index, slice_range, slice_set, if◌then◌else◌}

-- what stands in a line: a row's bytes, or nothing
abbrev pub Slot : Type 0
Slot = Option (List ℕ)

-- the number in the two bytes of a page from i, the lowest first
abbrev pub number_at : List ℕ → ℕ → ℕ
number_at p i = slice_index p i + 256 * slice_index p (i + 1)

-- the page that follows, 0 where none does: the number in the four bytes from 0
unfoldable pub next_page : List ℕ → ℕ
next_page p = number_at p 0 + 65536 * number_at p 2

-- how many lines a page has: the number in the two bytes from 4
abbrev pub lines : List ℕ → ℕ
lines p = number_at p 4

-- where the rows of a page begin: the number in the two bytes from 6
abbrev pub low : List ℕ → ℕ
low p = number_at p 6

-- where the row of line k begins: the first number of the line; lines have four bytes each, from 8 on
abbrev pub offset : List ℕ → ℕ → ℕ
offset p k = number_at p (8 + 4 * k)

-- how many bytes the row of line k has: the second number of the line
abbrev pub size : List ℕ → ℕ → ℕ
size p k = number_at p (10 + 4 * k)

-- what stands in line k: nothing where its row has no bytes
abbrev pub row_at : List ℕ → ℕ → Slot
row_at p k = if size p k == 0 then None else Some (slice_range p (offset p k) (offset p k + size p k))

-- what stands in the first n lines
abbrev pub slots_before : List ℕ → ℕ → List Slot
slots_before p zero = []
slots_before p (suc n) = slots_before p n ++ row_at p n ∷ []

-- the slots of a page: what stands in its lines
unfoldable pub slots : List ℕ → List Slot
slots p = slots_before p (lines p)

-- byte i belongs to the row of line k
pub record IsInRow (p : List ℕ) (k i : ℕ) : Type 0 where
  pub line : k < lines p
  pub from : offset p k ≤ i
  pub to : i < offset p k + size p k

-- the bytes are a page of rows: 1,024 bytes, of which the rows begin behind the lines, each row lies from there to the
-- end, and no byte belongs to two rows
pub record IsPage (p : List ℕ) : Type 0 where
  pub long : length p ≡ 1024
  pub behind : 8 + 4 * lines p ≤ low p
  pub top : low p ≤ 1024
  pub within : (k : ℕ) → k < lines p → 0 < size p k → (low p ≤ offset p k) × (offset p k + size p k ≤ 1024)
  pub apart : (j k i : ℕ) → IsInRow p j i → IsInRow p k i → j ≡ k

-- how many bytes stand in a slot
abbrev pub row_length : Slot → ℕ
row_length None = 0
row_length (Some row) = length row

-- the free bytes of a page with these slots, wherever they lie: those that are not its head's, a line's or a row's
abbrev pub room_beside : List Slot → ℕ
room_beside slots = 1016 - (4 * length slots + sum_by row_length slots)

-- the free bytes of a page
abbrev pub room : List ℕ → ℕ
room p = room_beside (slots p)

-- the first empty line for a row of n bytes, where so many are free, and else a new line, where four more are
abbrev pub line_in : Option ℕ → ℕ → ℕ → ℕ → Option ℕ
line_in (Some empty) lines room n = if nat_le n room then Some empty else None
line_in None lines room n = if nat_le (n + 4) room then Some lines else None

-- the line that a row of n bytes takes: the first empty one, or a new one behind the last; none where the room is too small
abbrev pub line_for : List Slot → ℕ → Option ℕ
line_for slots n = line_in (position is_none slots) (length slots) (room_beside slots) n

-- slots with a row in a line, which may be a new one behind the last
abbrev pub with_row : List Slot → Option ℕ → List ℕ → List Slot
with_row slots None row = slots
with_row slots (Some line) row = if nat_lt line (length slots) then slice_set slots line (Some row) else slots ++ Some row ∷ []
