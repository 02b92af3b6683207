-- A store comes of itself.
use Rattle.std.specs.Prelude.{Bool, refl}
use Rattle.disk_model.specs.Disk.{OnlyReads}
use Rattle.disk_model.specs.declared.disk.Disk.{Ghosts}
use Rattle.batch_file.proofs.Outside.{apart_starts}
use Rattle.batch_store.specs.Run.{Ran}
use Rattle.batch_store.specs.Store.{CameOf, OnlyReadOf}
use Rattle.batch_store.specs.declared.store.BatchStore.{BatchStore}

module _ {D : Type 0} (g : Ghosts D) where
  only_reads_start : (d : D) → OnlyReads g.seen g.touched g.clock g.left_since d d
  only_reads_start d = record { seen_same = refl; touches = λ b t. t; clock_same = refl; left = λ t m left. left }

  pub ran_starts : (due : Bool) (d : D) → Ran g due d due d
  ran_starts due d = record {
    still = refl;
    apart = λ known now. apart_starts g.seen g.touched g.clock g.left_since d now;
    reads = λ known is. only_reads_start d;
  }

module _ {D : Type 0} {g : Ghosts D} where
  pub comes_of_itself : (s : BatchStore D g) → CameOf s s
  comes_of_itself s = ran_starts g s.due s.disk

  pub reads_of_itself : (s : BatchStore D g) → OnlyReadOf s s
  reads_of_itself s = record { batch_same = refl; reads = λ known. only_reads_start g s.disk }
