-- How a read goes on from what was done before.
use Rattle.std.proofs.Common.{◌≡◌, Bool, true, false, IsTrue, refl, ◌∙◌, ap}
use Rattle.disk_model.specs.Disk.{OnlyReads}
use Rattle.disk_model.specs.declared.disk.Disk.{Ghosts}
use Rattle.batch_file.specs.declared.stage.Batch.{Batch}
use Rattle.batch_file.proofs.Outside.{apart_reads}
use Rattle.batch_store.specs.Run.{Ran}
use Rattle.batch_store.specs.Recovered.{known}

module _ {D : Type 0} (g : Ghosts D) where
  abbrev Read : D → D → Type 0
  Read old new = OnlyReads g.seen g.touched g.clock g.left_since old new

  -- two reads, one behind the other
  pub reads_join : (old between new : D) → Read old between → Read between new → Read old new
  reads_join old between new one two = record {
    seen_same = two.seen_same ∙ one.seen_same;
    touches = λ b t. one.touches b (two.touches b t);
    clock_same = two.clock_same ∙ one.clock_same;
    left = λ t m left. one.left t m (two.left t m left);
  }

  -- a read after what was done before
  pub ran_reads : (was now : Bool) (old between new : D) → Ran g was old now between → (IsTrue g.is_known → Read between new) → Ran g was old now new
  ran_reads was now old between new so_far read = record {
    still = so_far.still;
    apart = λ known only. apart_reads g.seen g.touched g.clock g.left_since old between new (so_far.apart known only) (read known);
    reads = λ known due. reads_join old between new (so_far.reads known due) (read known);
  }

  -- it leaves what is known
  pub known_reads : (batch : Batch) (old new : D) → (IsTrue g.is_known → Read old new) → known g.is_known (g.seen new) batch ≡ known g.is_known (g.seen old) batch
  known_reads batch old new read = go g.is_known (λ t. (read t).seen_same)
    where
      go : (is_known : Bool) → (IsTrue is_known → g.seen new ≡ g.seen old) → known is_known (g.seen new) batch ≡ known is_known (g.seen old) batch
      go true same = ap (λ m. known true m batch) (same refl)
      go false same = refl
