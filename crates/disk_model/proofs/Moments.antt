-- How a run of calls of a disk goes on.
use Rattle.std.proofs.Common.{◌≡◌, ◌⊎◌, inl, inr, ⊎_elim, ℕ, ◌≤◌, refl, ◌∙◌, ap, arith, List, Option}
use Rattle.disk_model.specs.declared.disk.Addr.{Addr}
use Rattle.disk_model.specs.Disk.{Image, IsImage, IsSettled, Changes, OnlyReads, Elapses, LeavesOnly}

module _ {S : Type 0} (seen : S → Image) (touched : S → Addr → Type 0) (clock : S → ℕ) (left_since : S → ℕ → Image → Type 0) where
  abbrev Of : S → Image → Type 0
  Of d m = IsImage (seen d) (touched d) m

  -- before the first call
  pub started : (d : S) (P : Image → Type 0) → ((m : Image) → left_since d (clock d) m → P m) → LeavesOnly clock left_since d d P
  started d P here = record { later = omega arith; each = here; earlier = λ t m le left. inl left }

  -- one call more, after which each image has P
  pub goes_on : (a b c : S) (P : Image → Type 0) → LeavesOnly clock left_since a b P → Elapses seen touched clock left_since b c
      → ((m : Image) → IsImage (seen c) (touched c) m → P m) → LeavesOnly clock left_since a c P
  goes_on a b c P so_far time here = record {
    later = omega (arith, so_far.later, time.later);
    each = λ m left. ⊎_elim (so_far.each m) (here m) (time.nothing_else (clock a) m so_far.later left);
    earlier = λ t m le left. ⊎_elim (so_far.earlier t m le) (λ now. inr (here m now)) (time.nothing_else t m (omega (arith, le, so_far.later)) left);
  }

  -- a call that only reads
  pub reads_on : (a b c : S) (P : Image → Type 0) → LeavesOnly clock left_since a b P → OnlyReads seen touched clock left_since b c → LeavesOnly clock left_since a c P
  reads_on a b c P so_far same = record {
    later = omega (arith, so_far.later, same.clock_same);
    each = λ m left. so_far.each m (same.left (clock a) m left);
    earlier = λ t m le left. so_far.earlier t m le (same.left t m left);
  }

  -- a run after a run
  pub joins : (a b c : S) (P Q : Image → Type 0) → LeavesOnly clock left_since a b P → LeavesOnly clock left_since b c Q → ((m : Image) → Q m → P m) → LeavesOnly clock left_since a c P
  joins a b c P Q first then_ into = record {
    later = omega (arith, first.later, then_.later);
    each = λ m left. ⊎_elim (first.each m) (into m) (then_.earlier (clock a) m first.later left);
    earlier = λ t m le left. ⊎_elim (first.earlier t m le) (λ q. inr (into m q)) (then_.earlier t m (omega (arith, le, first.later)) left);
  }

  pub weaker : (a b : S) (P Q : Image → Type 0) → LeavesOnly clock left_since a b P → ((m : Image) → P m → Q m) → LeavesOnly clock left_since a b Q
  weaker a b P Q run into = record {
    later = run.later;
    each = λ m left. into m (run.each m left);
    earlier = λ t m le left. ⊎_elim (λ l. inl l) (λ p. inr (into m p)) (run.earlier t m le left);
  }

  -- each image of now is one that such a run leaves
  pub image_now : (a b : S) (P : Image → Type 0) → LeavesOnly clock left_since a b P → ((m : Image) → clock a ≤ clock b → IsImage (seen b) (touched b) m → left_since b (clock a) m)
      → (m : Image) → IsImage (seen b) (touched b) m → P m
  image_now a b P run counts m now = run.each m (counts m run.later now)

  pub unchanged : (Hit : Addr → Type 0) (a : S) → Changes Hit seen touched a a
  unchanged Hit a = record { elsewhere = λ b off. refl; touches = λ b t. inl t }

  pub changes_reads : (Hit : Addr → Type 0) (a b c : S) → Changes Hit seen touched a b → OnlyReads seen touched clock left_since b c → Changes Hit seen touched a c
  changes_reads Hit a b c one same = record {
    elsewhere = λ x off. ap (λ (f : Image). f x) same.seen_same ∙ one.elsewhere x off;
    touches = λ x t. one.touches x (same.touches x t);
  }

  pub changes_more : (Hit More : Addr → Type 0) (a b c : S) → Changes Hit seen touched a b → Changes More seen touched b c → ((x : Addr) → More x → Hit x) → Changes Hit seen touched a c
  changes_more Hit More a b c one two into = record {
    elsewhere = λ x off. two.elsewhere x (λ h. off (into x h)) ∙ one.elsewhere x off;
    touches = λ x t. ⊎_elim (one.touches x) (λ h. inr (into x h)) (two.touches x t);
  }

  -- where nothing was touched, an image is what was seen but where it was hit
  pub image_near : (Hit : Addr → Type 0) (a b : S) → IsSettled (touched a) → Changes Hit seen touched a b → (m : Image) → IsImage (seen b) (touched b) m
      → (x : Addr) → (Hit x → ⊥) → m x ≡ seen a x
  image_near Hit a b settled change m image x off =
      image x (λ t. ⊎_elim (settled x) off (change.touches x t)) ∙ change.elsewhere x off

  pub image_settled : (a : S) → IsSettled (touched a) → (m : Image) → IsImage (seen a) (touched a) m → m ≡ seen a
  image_settled a settled m image = λ i x. image x (settled x) i

  -- an image comes from one of before, but where it was hit
  pub image_back : (Hit : Addr → Type 0) → ((x : Addr) → Hit x ⊎ (Hit x → ⊥)) → (a b : S) → Changes Hit seen touched a b → (m : Image) → IsImage (seen b) (touched b) m
      → (m0 : Image) × IsImage (seen a) (touched a) m0 × ((x : Addr) → (Hit x → ⊥) → m x ≡ m0 x)
  image_back Hit decided a b change m image = (
    (λ x. pick x (decided x)),
    (λ x calm. is x calm (decided x)),
    (λ x off. other x off (decided x)),
  )
    where
      pick : (x : Addr) → Hit x ⊎ (Hit x → ⊥) → Option (List ℕ)
      pick x (inl h) = seen a x
      pick x (inr n) = m x

      is : (x : Addr) → (touched a x → ⊥) → (d : Hit x ⊎ (Hit x → ⊥)) → pick x d ≡ seen a x
      is x calm (inl h) = refl
      is x calm (inr n) = image x (λ t. ⊎_elim calm n (change.touches x t)) ∙ change.elsewhere x n

      other : (x : Addr) → (Hit x → ⊥) → (d : Hit x ⊎ (Hit x → ⊥)) → m x ≡ pick x d
      other x off (inl h) = absurd (off h)
      other x off (inr n) = refl

  -- a sync, also one that fails, leaves no image more
  pub image_synced : (a b : S) → seen b ≡ seen a → ((x : Addr) → touched b x → touched a x) → (m : Image) → IsImage (seen b) (touched b) m → IsImage (seen a) (touched a) m
  image_synced a b same less m image = λ x calm. image x (λ t. calm (less x t)) ∙ ap (λ (f : Image). f x) same

  -- a sync
  pub syncs_on : (a b c : S) (P : Image → Type 0) → LeavesOnly clock left_since a b P → seen c ≡ seen b → ((x : Addr) → touched c x → touched b x) → Elapses seen touched clock left_since b c
      → ((m : Image) → IsImage (seen b) (touched b) m → P m) → LeavesOnly clock left_since a c P
  syncs_on a b c P so_far same less time here = goes_on a b c P so_far time (λ m image. here m (image_synced b c same less m image))
