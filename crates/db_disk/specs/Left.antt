-- What a crash of a disk leaves, as a base has it: by the databases that its images hold.
use Rattle.std.specs.Prelude.{◌≡◌, ◌⊎◌, ◌<◌, ℕ, Bool, Option, IsTrue, if◌then◌else◌}
use Rattle.calculus.specs.Database.{Db}
use Rattle.disk_model.specs.Disk.{Image, IsImage}
use Rattle.disk_model.specs.declared.disk.Addr.{Addr}
use Rattle.db_disk.specs.Held.{held}

-- a disk's clock, where its content is known
abbrev pub clock_by : {D : Type 0} → Bool → (D → ℕ) → D → ℕ
clock_by is_known clock d = if is_known then clock d else 0

-- a crash since a moment may have left this image: it is one of now, or the moment is an earlier one and the disk says so
abbrev pub IsLeft : {D : Type 0} → (D → Image) → (D → Addr → Type 0) → (D → ℕ) → (D → ℕ → Image → Type 0) → D → ℕ → Image → Type 0
IsLeft seen touched clock left_since d t m = IsImage (seen d) (touched d) m ⊎ ((t < clock d) × left_since d t m)

-- what a crash since a moment may have left, by the database that the image holds, where the content of the disk is known
abbrev pub left_by : {D : Type 0} → Bool → (D → Image) → (D → Addr → Type 0) → (D → ℕ) → (D → ℕ → Image → Type 0) → D → ℕ → Option Db → Type 0
left_by is_known seen touched clock left_since d t o = (m : Image) × IsTrue is_known × IsLeft seen touched clock left_since d t m × (held m ≡ o)
