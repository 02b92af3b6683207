-- How the gate is shut behind a batch that is at its places.
use Rattle.std.proofs.Common.{◌≡◌, ℕ, Some, true, sym, ◌∙◌, ap}
use Rattle.disk_model.specs.declared.disk.Addr.{Addr}
use Rattle.disk_model.specs.Disk.{Image, IsImage, IsSettled, Changes, Elapses, LeavesOnly}
use Rattle.disk_model.proofs.Moments.{goes_on, image_near, syncs_on}
use Rattle.batch_file.specs.Layout.{addr, entries}
use Rattle.batch_file.specs.Redone.{laid, is_kept, kept, redone}
use Rattle.batch_file.specs.OnDisk.{IsOpen}
use Rattle.batch_file.proofs.Applies.{kept_by, kept_not_gate}
use Rattle.batch_file.proofs.Placing.{redone_end, redone_is}

module _ {S : Type 0} (seen : S → Image) (touched : S → Addr → Type 0) (clock : S → ℕ) (left_since : S → ℕ → Image → Type 0)
    (n : ℕ) (old placed synced : S) (is : IsOpen (seen old) (touched old) n) (run : LeavesOnly clock left_since old placed (λ m. redone m ≡ redone (seen old)))
    (is_placed : seen placed ≡ laid (entries (seen old) n) (seen old)) (settled : IsSettled (touched synced)) (same : seen synced ≡ seen placed) (time : Elapses seen touched clock left_since placed synced) where
  abbrev Same : Image → Type 0
  Same m = redone m ≡ redone (seen old)

  synced_is : (b : Addr) → seen synced b ≡ laid (entries (seen old) n) (seen old) b
  synced_is b = ap (λ (f : Image). f b) (same ∙ is_placed)

  run_synced : LeavesOnly clock left_since old synced Same
  run_synced = goes_on seen touched clock left_since old placed synced Same run time (λ m image. redone_end (seen old) m (touched old) n is (λ b off. image b (settled b) ∙ synced_is b))

  module _ (written : S) (change : Changes (λ b. b ≡ addr 1 0) seen touched synced written) (time2 : Elapses seen touched clock left_since synced written) where
    image_is : (m : Image) → IsImage (seen written) (touched written) m → Same m
    image_is m image = redone_end (seen old) m (touched old) n is (λ b off. image_near seen touched clock left_since (λ x. x ≡ addr 1 0) synced written settled change m image b off ∙ synced_is b)

    pub run_written : LeavesOnly clock left_since old written Same
    run_written = goes_on seen touched clock left_since old synced written Same run_synced time2 image_is

    pub run_closed : (closed : S) → seen closed ≡ seen written → ((x : Addr) → touched closed x → touched written x) → Elapses seen touched clock left_since written closed → LeavesOnly clock left_since old closed Same
    run_closed closed alike less time3 = syncs_on seen touched clock left_since old written closed Same run_written alike less time3 image_is

    pub redone_done : (closed : S) → seen closed ≡ seen written → redone (seen old) ≡ Some (kept (seen closed))
    redone_done closed alike =
        let each : (b : Addr) → is_kept b.file ≡ true → laid (entries (seen old) n) (seen old) b ≡ seen closed b = λ b k.
        sym (ap (λ (f : Image). f b) alike ∙ change.elsewhere b (kept_not_gate b k) ∙ synced_is b) in
        redone_is (seen old) (touched old) n is ∙ ap Some (kept_by (laid (entries (seen old) n) (seen old)) (seen closed) each)
