-- What a store of pages over a disk is made of.
use Rattle.std.specs.Prelude.{◌≡◌, ℕ, Bool, Option, IsTrue}
use Rattle.disk_model.specs.Disk.{Image, OnlyReads}
use Rattle.disk_model.specs.declared.disk.Addr.{Addr}
use Rattle.disk_model.specs.declared.disk.Disk.{Ghosts}
use Rattle.batch_file.specs.declared.stage.Batch.{Batch}
use Rattle.batch_file.specs.Layout.{Entries}
use Rattle.batch_file.specs.Staged.{size_of, staged}
use Rattle.batch_store.specs.Run.{Ran}
use Rattle.batch_store.specs.Recovered.{known}
use Rattle.batch_store.specs.declared.store.BatchStore.{BatchStore}

module _ {D : Type 0} {g : Ghosts D} where
  -- the disk below
  abbrev pub disk_of : BatchStore D g → D
  disk_of s = s.disk

  -- the batch that is being written
  abbrev pub batch_of : BatchStore D g → Batch
  batch_of s = s.batch

  -- how many pages were put since the batch was begun
  abbrev pub waiting : BatchStore D g → ℕ
  waiting s = size_of s.batch

  -- the pages that were put, each with its address, where the content of the disk is known
  abbrev pub changes_of : BatchStore D g → Entries
  changes_of s = staged (g.seen s.disk) s.batch

  -- whether a batch was begun to be applied and failed
  abbrev pub is_due : BatchStore D g → Bool
  is_due s = s.due

  -- the page at each address, where the content of the disk is known
  abbrev pub pages_of : BatchStore D g → Option Image
  pages_of s = known g.is_known (g.seen s.disk) s.batch

  -- the address of the page that it keeps, where it keeps one
  abbrev pub last_of : BatchStore D g → Option Addr
  last_of s = s.given

  -- it came of that store by calls of a store of pages
  abbrev pub CameOf : BatchStore D g → BatchStore D g → Type 0
  CameOf before now = Ran g before.due before.disk now.due now.disk

  -- it came of that store by reads: the batch is the same, and a crash may leave nothing else
  pub record OnlyReadOf (before now : BatchStore D g) : Type 0 where
    pub batch_same : now.batch ≡ before.batch
    pub reads : IsTrue g.is_known → OnlyReads g.seen g.touched g.clock g.left_since before.disk now.disk
