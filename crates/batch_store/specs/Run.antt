-- What the calls of a store do to its disk.
use Rattle.std.specs.Prelude.{◌≡◌, Bool, true, IsTrue}
use Rattle.disk_model.specs.Disk.{Image, IsImage, OnlyReads}
use Rattle.disk_model.specs.declared.disk.Disk.{Ghosts}
use Rattle.batch_file.specs.OnDisk.{Apart}

-- since this moment there is no other, which a law says of every disk
abbrev pub HasOnlyNow : {D : Type 0} → Ghosts D → D → Type 0
HasOnlyNow g d = (m : Image) → g.left_since d (g.clock d) m → IsImage (g.seen d) (g.touched d) m

-- Nothing was done but in the batch's own files, and nothing but reads while a restore is due.
pub record Ran {D : Type 0} (g : Ghosts D) (was_due : Bool) (old : D) (is_due : Bool) (now : D) : Type 0 where
  pub still : is_due ≡ was_due
  pub apart : IsTrue g.is_known → HasOnlyNow g old → Apart g.seen g.touched g.clock g.left_since old now
  pub reads : IsTrue g.is_known → was_due ≡ true → OnlyReads g.seen g.touched g.clock g.left_since old now
