-- What the calls of a batch leave on a disk.
use Rattle.std.specs.Prelude.{◌≡◌, ◌≢◌, ◌⊎◌, ℕ, zero, suc, ◌<◌, ◌≤◌, true, List, [], ◌∷◌, Option, Some, None}
use Rattle.disk_model.specs.Disk.{Image, IsImage, IsSettled, Changes, LeavesOnly}
use Rattle.disk_model.specs.declared.disk.Addr.{Addr}
use Rattle.batch_file.specs.Layout.{Entries, gate, count, is_lawful, has_image}
use Rattle.batch_file.specs.Redone.{redone, laid, damage}

-- the files 2 to 4, which are the batch's own
pub record InBatch (b : Addr) : Type 0 where
  pub from : 2 ≤ b.file
  pub to : b.file ≤ 4

-- it is an image of the disk as it was, but in the batch's own files
abbrev pub SameOutside : Image → (Addr → Type 0) → Image → Type 0
SameOutside seen touched m = (m0 : Image) × IsImage seen touched m0 × ((b : Addr) → (InBatch b → ⊥) → m b ≡ m0 b)

-- Nothing was done but in the batch's own files.
pub record Apart {S : Type 0} (seen : S → Image) (touched : S → Addr → Type 0) (clock : S → ℕ) (left_since : S → ℕ → Image → Type 0) (old now : S) : Type 0 where
  pub change : Changes InBatch seen touched old now
  pub run : LeavesOnly clock left_since old now (SameOutside (seen old) (touched old))

-- it has the redone of an image of the disk as it was, or of one with all changes laid over it
abbrev pub BeforeOrAfter : Image → (Addr → Type 0) → Entries → Image → Type 0
BeforeOrAfter seen touched cs m = (m0 : Image) × IsImage seen touched m0 × ((redone m ≡ redone m0) ⊎ (redone m ≡ redone (laid cs m0)))

-- it has the redone of an image of the disk as it was
abbrev pub SameRedone : Image → (Addr → Type 0) → Image → Type 0
SameRedone seen touched m = (m0 : Image) × IsImage seen touched m0 × (redone m ≡ redone m0)

-- The first n addresses of a batch are there and may be named, and its first n images are there.
pub record IsWhole (m : Image) (n : ℕ) : Type 0 where
  pub addresses : (k : ℕ) → k < n → is_lawful m k ≡ true
  pub images : (k : ℕ) → k < n → has_image m k ≡ true

-- A batch of n is on the disk, all of it settled, and its gate is open.
pub record IsOpen (seen : Image) (touched : Addr → Type 0) (n : ℕ) : Type 0 where
  pub settled : IsSettled touched
  pub gate_open : gate seen ≡ 1
  pub no_damage : damage seen ≡ None
  pub size : count seen ≡ n

-- Nothing is touched and the gate is shut.
pub record IsClosed (seen : Image) (touched : Addr → Type 0) : Type 0 where
  pub settled : IsSettled touched
  pub shut : gate seen ≢ 1

-- entries with this page in place of image i
abbrev pub renewed : Entries → ℕ → List ℕ → Entries
renewed [] i page = []
renewed (e ∷ es) zero page = (e.0, page) ∷ es
renewed (e ∷ es) (suc i) page = e ∷ renewed es i page

-- image i of some entries
abbrev pub image_in : Entries → ℕ → Option (List ℕ)
image_in [] i = None
image_in (e ∷ es) zero = Some e.1
image_in (e ∷ es) (suc i) = image_in es i
