-- What the calls of a disk do, and what a crash may leave.
use Rattle.std.specs.Prelude.{◌≡◌, ◌⊎◌, ℕ, ◌+◌, ◌≤◌, ◌==◌, ◌&&◌, Bool, List, Option}
use Rattle.disk_model.specs.declared.disk.Addr.{Addr}

-- a page, or none, at each address
abbrev pub Image : Type 0
Image = Addr → Option (List ℕ)

-- whether two addresses are the same
abbrev pub is_at : Addr → Addr → Bool
is_at b a = b.file == a.file && b.page == a.page

-- m is what reads give, but at the touched addresses, where it may be anything
abbrev pub IsImage : Image → (Addr → Type 0) → Image → Type 0
IsImage seen touched m = (b : Addr) → (touched b → ⊥) → m b ≡ seen b

-- nothing is touched
abbrev pub IsSettled : (Addr → Type 0) → Type 0
IsSettled touched = (b : Addr) → touched b → ⊥

-- Reads give the same as before but at the addresses that are hit, and only those are newly touched.
pub record Changes {S : Type 0} (Hit : Addr → Type 0) (seen : S → Image) (touched : S → Addr → Type 0) (old new : S) : Type 0 where
  pub elsewhere : (b : Addr) → (Hit b → ⊥) → seen new b ≡ seen old b
  pub touches : (b : Addr) → touched new b → touched old b ⊎ Hit b

-- Nothing is changed, and no crash may leave anything else.
pub record OnlyReads {S : Type 0} (seen : S → Image) (touched : S → Addr → Type 0) (clock : S → ℕ) (left_since : S → ℕ → Image → Type 0) (old new : S) : Type 0 where
  pub seen_same : seen new ≡ seen old
  pub touches : (b : Addr) → touched new b → touched old b
  pub clock_same : clock new ≡ clock old
  pub left : (t : ℕ) (m : Image) → left_since new t m → left_since old t m

-- Time goes on: a crash since t may have left what it may have left before, or an image of now.
pub record Elapses {S : Type 0} (seen : S → Image) (touched : S → Addr → Type 0) (clock : S → ℕ) (left_since : S → ℕ → Image → Type 0) (old new : S) : Type 0 where
  pub later : clock old ≤ clock new
  pub nothing_else : (t : ℕ) (m : Image) → t ≤ clock old → left_since new t m → left_since old t m ⊎ IsImage (seen new) (touched new) m
  pub keeps : (t : ℕ) (m : Image) → t ≤ clock old → left_since old t m → left_since new t m

-- A crash at any moment since `old` leaves an image that has P; one since an earlier moment leaves what it
-- may have left then, or such an image.
pub record LeavesOnly {S : Type 0} (clock : S → ℕ) (left_since : S → ℕ → Image → Type 0) (old new : S) (P : Image → Type 0) : Type 0 where
  pub later : clock old ≤ clock new
  pub each : (m : Image) → left_since new (clock old) m → P m
  pub earlier : (t : ℕ) (m : Image) → t ≤ clock old → left_since new t m → left_since old t m ⊎ P m

-- The count rose by at most n.
pub record RisesUpTo (n before now : ℕ) : Type 0 where
  pub later : before ≤ now
  pub at_most : now ≤ before + n
