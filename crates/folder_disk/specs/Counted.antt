-- What is known of a disk in a folder.
use Rattle.std.specs.Prelude.{ℕ}
use Rattle.folder_disk.specs.declared.counts.Counts.{Counts}

-- A disk in a folder: how often each of its calls was made, and how often one has failed.
pub record Counted : Type 0 where
  pub counts : Counts
  pub faults : ℕ
