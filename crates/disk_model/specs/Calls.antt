-- What a list of writes, cuts and syncs makes of a disk in memory.
use Rattle.std.specs.Prelude.{◌≡◌, ◌⊎◌, ℕ, ◌≤◌, ◌==◌, List, [], ◌∷◌, length, take, Some, None, replicate, if◌then◌else◌}
use Rattle.disk_model.specs.declared.disk.Addr.{Addr}
use Rattle.disk_model.specs.declared.calls.Call.{Call}
use Rattle.disk_model.specs.declared.calls.Call.TheVariants.{Write, FailedWrite, Cut, FailedCut, Sync, FailedSync, Fill}
use Rattle.disk_model.specs.Disk.{Image, IsImage, is_at}

-- a page of one byte
unfoldable pub page_of : ℕ → List ℕ
page_of byte = replicate 1024 byte

-- what a read gives after one more call
abbrev pub seen_after : Call → Image → Image
seen_after (Write a page) m = λ b. if is_at b a then Some page else m b
seen_after (FailedWrite a) m = m
seen_after (Cut file) m = λ b. if b.file == file then None else m b
seen_after (FailedCut file) m = m
seen_after Sync m = m
seen_after FailedSync m = m
seen_after (Fill file byte) m = λ b. if b.file == file then Some (page_of byte) else m b

-- which addresses are touched after one more call
abbrev pub touched_after : Call → (Addr → Type 0) → Addr → Type 0
touched_after (Write a page) t b = t b ⊎ (b ≡ a)
touched_after (FailedWrite a) t b = t b ⊎ (b ≡ a)
touched_after (Cut file) t b = t b ⊎ (b.file ≡ file)
touched_after (FailedCut file) t b = t b ⊎ (b.file ≡ file)
touched_after Sync t b = ⊥
touched_after FailedSync t b = t b
touched_after (Fill file byte) t b = t b ⊎ (b.file ≡ file)

-- what stood at the last sync, after one more call; now is what a read gives before it
abbrev pub synced_after : Call → Image → Image → Image
synced_after (Write a page) stood now = stood
synced_after (FailedWrite a) stood now = stood
synced_after (Cut file) stood now = stood
synced_after (FailedCut file) stood now = stood
synced_after Sync stood now = now
synced_after FailedSync stood now = stood
synced_after (Fill file byte) stood now = stood

-- what a read gives after these calls, where m stood before them
abbrev pub seen_from : Image → List Call → Image
seen_from m [] = m
seen_from m (c ∷ cs) = seen_from (seen_after c m) cs

-- which addresses are touched after these calls, where t were before them
abbrev pub touched_from : (Addr → Type 0) → List Call → Addr → Type 0
touched_from t [] = t
touched_from t (c ∷ cs) = touched_from (touched_after c t) cs

-- what stood at the last sync of these calls, or else the image that stood at one before them
abbrev pub synced_from : Image → Image → List Call → Image
synced_from stood now [] = stood
synced_from stood now (c ∷ cs) = synced_from (synced_after c stood now) (seen_after c now) cs

-- what these calls make of an empty disk
abbrev pub seen_of : List Call → Image
seen_of cs = seen_from (λ _. None) cs

-- which addresses these calls touch
abbrev pub touched_of : List Call → Addr → Type 0
touched_of cs = touched_from (λ _. ⊥) cs

-- a crash after some number of the calls, t or more, leaves this image, where m stood before them
pub record LeftSince (m : Image) (cs : List Call) (t : ℕ) (left : Image) : Type 0 where
  pub at : ℕ
  pub late : t ≤ at
  pub there : at ≤ length cs
  pub image : IsImage (seen_from m (take at cs)) (touched_of (take at cs)) left

-- the entry of a call that failed
abbrev pub failed_call : Call → Call
failed_call (Write a page) = FailedWrite a
failed_call (FailedWrite a) = FailedWrite a
failed_call (Cut file) = FailedCut file
failed_call (FailedCut file) = FailedCut file
failed_call Sync = FailedSync
failed_call FailedSync = FailedSync
failed_call (Fill file byte) = Fill file byte
