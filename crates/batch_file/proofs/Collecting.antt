-- A whole commit: images added one by one, and the batch finished.
use Rattle.std.proofs.Common.{◌≡◌, ℕ, suc, List, [], ◌∷◌, ◌++◌, inl, inr, true, IsTrue, sym, ◌∙◌, ap, subst, arith}
use Rattle.std.specs.List.{All}
use Rattle.disk_model.specs.declared.disk.Addr.{Addr}
use Rattle.disk_model.specs.Disk.{Image, IsImage, Changes, LeavesOnly}
use Rattle.batch_file.specs.declared.stage.Batch.{Batch}
use Rattle.batch_file.specs.Layout.{Entries, is_place}
use Rattle.batch_file.specs.OnDisk.{InBatch, Apart, SameOutside}
use Rattle.batch_file.specs.Staged.{staged, Holds}
use Rattle.batch_file.proofs.Applies.{Among}
use Rattle.batch_file.proofs.Outside.{apart_starts, apart_joins}

-- changes at places that a batch may name
pub all_places : (cs : Entries) → All (λ c. IsTrue (is_place c.0)) cs → (b : Addr) → Among cs b → is_place b ≡ true
all_places [] all b h = absurd h
all_places (c ∷ cs) all b (inl e) = subst (λ (x : Addr). is_place x ≡ true) (sym e) (all 0 c (omega arith))
all_places (c ∷ cs) all b (inr h) = all_places cs (λ k d lt. all (suc k) d (omega arith)) b h

module _ {S : Type 0} (seen : S → Image) (touched : S → Addr → Type 0) (clock : S → ℕ) (left_since : S → ℕ → Image → Type 0) where
  -- These changes are in the batch, and nothing else is done.
  pub record Collecting (cs : Entries) (old now : S) (batch : Batch) : Type 0 where
    pub apart : Apart seen touched clock left_since old now
    pub held : Holds (seen now) batch
    pub listed : staged (seen now) batch ≡ cs

  pub collecting_starts : (old : S) (batch : Batch) → Holds (seen old) batch → staged (seen old) batch ≡ [] → ((m : Image) → left_since old (clock old) m → IsImage (seen old) (touched old) m) → Collecting [] old old batch
  collecting_starts old batch held none only_now = record { apart = apart_starts seen touched clock left_since old only_now; held = held; listed = none }

  pub collects : (cs more : Entries) (old now next : S) (batch after : Batch) (a : Addr) (image : List ℕ) → Collecting cs old now batch → Changes InBatch seen touched now next
      → LeavesOnly clock left_since now next (SameOutside (seen now) (touched now)) → Holds (seen next) after → staged (seen next) after ≡ staged (seen now) batch ++ (a, image) ∷ []
      → more ≡ cs ++ (a, image) ∷ [] → Collecting more old next after
  collects cs more old now next batch after a image so_far change run held added is = record {
    apart = apart_joins seen touched clock left_since old now next so_far.apart change run;
    held = held;
    listed = added ∙ ap (λ (l : Entries). l ++ (a, image) ∷ []) so_far.listed ∙ sym is;
  }
