-- Which bytes are a page of rows, as a test; the pages of a file; and how a page of a chain goes on.
use Rattle.std.specs.Prelude.{ℕ, zero, suc, ◌+◌, ◌*◌, ◌==◌, ◌&&◌, ◌||◌, nat_le, nat_lt, Bool, true, false, List, length, Option, Some, None}
use Rattle.disk_model.specs.Disk.{Image}
use Rattle.disk_model.specs.declared.disk.Addr.{Addr}
use Rattle.page_cells.specs.Page.{lines, low, offset, size, next_page}
use Rattle.page_chain.specs.Lists.{when}

-- each number below n passes the test
abbrev pub all_below : ℕ → (ℕ → Bool) → Bool
all_below zero test = true
all_below (suc n) test = test n && all_below n test

-- the row of line k, where it has one, lies between the lines and the end
abbrev pub is_inside : List ℕ → ℕ → Bool
is_inside p k = (size p k == 0) || (nat_le (low p) (offset p k) && nat_le (offset p k + size p k) 1024)

-- the rows of two lines, where both have one, share no byte
abbrev pub are_apart : List ℕ → ℕ → ℕ → Bool
are_apart p j k = (size p j == 0) || ((size p k == 0) || (nat_le (offset p j + size p j) (offset p k) || nat_le (offset p k + size p k) (offset p j)))

-- the bytes are a page of rows
unfoldable pub is_page : List ℕ → Bool
is_page p = elim (nat_le (8 + 4 * lines p) (low p) && nat_le (low p) 1024) [
  | false ↦ false
  | true ↦ (length p == 1024) && (all_below (lines p) (is_inside p) && all_below (lines p) (λ k. all_below k (λ j. are_apart p j k)))
]

-- the pages of a file, by number
abbrev pub Pages : Type 0
Pages = ℕ → Option (List ℕ)

-- the address of a page of a file
abbrev pub page_at : ℕ → ℕ → Addr
page_at file page = record { file = file; page = page }

-- the pages of a file of an image
abbrev pub pages_of : Image → ℕ → Pages
pages_of m file = λ page. m (page_at file page)

-- a chain may go on from a page to this one: to none, or to one behind it and below the bound
abbrev pub may_follow : ℕ → ℕ → ℕ → Bool
may_follow bound page next = (next == 0) || (nat_lt page next && nat_lt next bound)

-- the page that follows, 0 where none does; nothing where there is no page, or none of rows, or where the chain may not go on so
unfoldable pub next_of : ℕ → ℕ → Option (List ℕ) → Option ℕ
next_of bound page None = None
next_of bound page (Some p) = when (is_page p && may_follow bound page (next_page p)) (next_page p)
