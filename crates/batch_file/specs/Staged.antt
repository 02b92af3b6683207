-- A batch that is being written: part of its addresses stands in the batch itself until its page is full.
use Rattle.std.specs.Prelude.{ℕ, ◌/◌, [], ◌∷◌}
use Rattle.disk_model.specs.Disk.{Image}
use Rattle.batch_file.specs.declared.stage.Batch.{Batch}
use Rattle.batch_file.specs.Layout.{Entries, addr, entries}
use Rattle.batch_file.specs.Redone.{laid}
use Rattle.batch_file.specs.OnDisk.{IsWhole}

-- how many images a batch has
abbrev pub size_of : Batch → ℕ
size_of batch = batch.count

-- the disk as it reads once the batch's last page of addresses is written
abbrev pub completed : Image → Batch → Image
completed m batch = laid ((addr 3 (batch.count / 128), batch.addresses) ∷ []) m

-- the addresses and images of a batch whose own files read so, in their order
abbrev pub staged : Image → Batch → Entries
staged m batch = entries (completed m batch) batch.count

-- the batch's own files read so that they hold what the batch has of its pages
abbrev pub Holds : Image → Batch → Type 0
Holds m batch = IsWhole (completed m batch) batch.count
