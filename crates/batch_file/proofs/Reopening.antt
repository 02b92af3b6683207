-- What a restore answers and leaves.
use Rattle.std.proofs.Common.{◌≡◌, ◌≢◌, ℕ, Some, refl, sym, ◌∙◌, ap}
use Rattle.disk_model.specs.declared.disk.Addr.{Addr}
use Rattle.disk_model.specs.Disk.{Image, IsImage, OnlyReads, Elapses, LeavesOnly}
use Rattle.disk_model.proofs.Moments.{started, syncs_on, reads_on, joins}
use Rattle.batch_file.specs.Layout.{gate}
use Rattle.batch_file.specs.Redone.{kept, redone}
use Rattle.batch_file.specs.OnDisk.{SameRedone}
use Rattle.batch_file.proofs.Applies.{redone_shut}

module _ {S : Type 0} (seen : S → Image) (touched : S → Addr → Type 0) (clock : S → ℕ) (left_since : S → ℕ → Image → Type 0)
    (old synced : S) (only_now : (m : Image) → left_since old (clock old) m → IsImage (seen old) (touched old) m)
    (same : seen synced ≡ seen old) (less : (b : Addr) → touched synced b → touched old b) (time : Elapses seen touched clock left_since old synced) where
  abbrev P : Image → Type 0
  P = SameRedone (seen old) (touched old)

  pub synced_run : LeavesOnly clock left_since old synced P
  synced_run = syncs_on seen touched clock left_since old old synced P (started seen touched clock left_since old P (λ m left. (m, only_now m left, refl))) same less time (λ m image. (m, image, refl))

  pub read_run : (read : S) → OnlyReads seen touched clock left_since synced read → LeavesOnly clock left_since old read P
  read_run read still = reads_on seen touched clock left_since old synced read P synced_run still

  module _ (one two : S) (r1 : OnlyReads seen touched clock left_since synced one) (r2 : OnlyReads seen touched clock left_since one two) where
    pub read_twice : LeavesOnly clock left_since old two P
    read_twice = reads_on seen touched clock left_since old one two P (read_run one r1) r2

    two_seen : seen two ≡ seen old
    two_seen = r2.seen_same ∙ r1.seen_same ∙ same

    pub redo_run : (new : S) → LeavesOnly clock left_since two new (λ m. redone m ≡ redone (seen two)) → LeavesOnly clock left_since old new P
    redo_run new last = joins seen touched clock left_since old two new _ _ read_twice last (λ m is. (seen old, (λ b calm. refl), is ∙ ap redone two_seen))

pub nothing_done : (m m' : Image) → gate m ≢ 1 → m' ≡ m → redone m ≡ Some (kept m')
nothing_done m m' shut same = redone_shut m shut ∙ ap (λ x. Some (kept x)) (sym same)
