-- How a batch lies on a disk: the gate in file 1, the head in file 2, the addresses in file 3, the images in
-- file 4.
use Rattle.std.specs.Prelude.{ℕ, zero, suc, ◌+◌, ◌*◌, ◌/◌, ◌%◌, ◌==◌, ◌&&◌, ◌||◌, nat_le, nat_lt, nat_eq, Bool, false, is_some, List, [], ◌∷◌, ◌++◌, Option, Some, None, slice_index}
use Rattle.std.specs.Int.{w32, from_le_bytes}
use Rattle.std.specs.List.{starts_with}
use Rattle.disk_model.specs.Disk.{Image}
use Rattle.disk_model.specs.declared.disk.Addr.{Addr}

-- the address of a page of a file
abbrev pub addr : ℕ → ℕ → Addr
addr file page = record { file = file; page = page }

-- pages, each with the address at which it is to stand
abbrev pub Entries : Type 0
Entries = List (Addr × List ℕ)

-- four bytes of a page, the lowest first
abbrev pub number_at : List ℕ → ℕ → ℕ
number_at p i = from_le_bytes w32 (slice_index p i ∷ slice_index p (i + 1) ∷ slice_index p (i + 2) ∷ slice_index p (i + 3) ∷ [])

-- byte 0 of a page, and 0 where there is no page
abbrev pub first_byte : Option (List ℕ) → ℕ
first_byte (Some p) = slice_index p 0
first_byte None = 0

-- the gate: byte 0 of page 0 of file 1; only the value 1 is open
abbrev pub gate : Image → ℕ
gate m = first_byte (m (addr 1 0))

-- the bytes of `BATCH7` and two blanks, and then a count that is not 0
abbrev pub is_head : Option (List ℕ) → Bool
is_head (Some p) = starts_with nat_eq p (66 ∷ 65 ∷ 84 ∷ 67 ∷ 72 ∷ 55 ∷ 32 ∷ 32 ∷ []) && nat_lt 0 (number_at p 8)
is_head None = false

-- the count on the head, and 0 where there is no head
abbrev pub count_in : Option (List ℕ) → ℕ
count_in (Some p) = number_at p 8
count_in None = 0

-- the number of images of the batch, as page 0 of file 2 says
abbrev pub count : Image → ℕ
count m = count_in (m (addr 2 0))

-- a page that a batch may name: page 0 of file 0, or one of a file from 5 up
abbrev pub is_place : Addr → Bool
is_place a = (a.file == 0 && a.page == 0) || nat_le 5 a.file

-- address k, on its page of addresses
abbrev pub address_in : List ℕ → ℕ → Addr
address_in p k = addr (number_at p (8 * (k % 128))) (number_at p (8 * (k % 128) + 4))

-- whether that page is there and the address one that a batch may name
abbrev pub is_lawful_in : Option (List ℕ) → ℕ → Bool
is_lawful_in (Some p) k = is_place (address_in p k)
is_lawful_in None k = false

-- whether address k of the batch is there and one that a batch may name
abbrev pub is_lawful : Image → ℕ → Bool
is_lawful m k = is_lawful_in (m (addr 3 (k / 128))) k

-- whether image k of the batch is there
abbrev pub has_image : Image → ℕ → Bool
has_image m k = is_some (m (addr 4 k))

-- a page's bytes, and none where there is no page
abbrev pub or_empty : Option (List ℕ) → List ℕ
or_empty (Some p) = p
or_empty None = []

-- address k and image k of the batch
abbrev pub entry : Image → ℕ → Addr × List ℕ
entry m k = (address_in (or_empty (m (addr 3 (k / 128)))) k, or_empty (m (addr 4 k)))

-- the first n of some
abbrev pub entries_of : (ℕ → Addr × List ℕ) → ℕ → Entries
entries_of each zero = []
entries_of each (suc n) = entries_of each n ++ each n ∷ []

-- the first n addresses and images of the batch
abbrev pub entries : Image → ℕ → Entries
entries m n = entries_of (entry m) n
