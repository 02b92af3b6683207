-- What is put into a store of pages.
use Rattle.std.specs.Prelude.{◌≡◌, ℕ, List, Option, Some, if◌then◌else◌}
use Rattle.disk_model.specs.Disk.{Image, is_at}
use Rattle.disk_model.specs.declared.disk.Addr.{Addr}

-- these pages, with this one at this address
abbrev pub with_page : Addr → List ℕ → Image → Image
with_page a page m = λ b. if is_at b a then Some page else m b

-- the pages of all files but this one are the same
abbrev pub SameElsewhere : ℕ → Image → Image → Type 0
SameElsewhere file m n = (b : Addr) → (b.file ≡ file → ⊥) → n b ≡ m b

-- The pages are still known, and those of all files but this one are as before.
pub record KeepsOthers (file : ℕ) (before now : Option Image) : Type 0 where
  pub each : (m : Image) → before ≡ Some m → (n : Image) × (now ≡ Some n) × SameElsewhere file m n
