-- Which calls apply a batch, and in which order.
use Rattle.std.specs.Prelude.{◌≡◌, ◌≢◌, ℕ, ◌&&◌, nat_le, Bool, true, false, List, [], ◌∷◌, ◌++◌, length, Some, None}
use Rattle.std.specs.List.{list_all}
use Rattle.disk_model.specs.Calls.{seen_from}
use Rattle.disk_model.specs.Disk.{Image}
use Rattle.disk_model.specs.declared.calls.Call.{Call}
use Rattle.disk_model.specs.declared.calls.Call.TheVariants.{Write, FailedWrite, Cut, FailedCut, Sync, FailedSync, Fill}
use Rattle.batch_file.specs.declared.fault.Restored.{Restored}
use Rattle.batch_file.specs.declared.fault.Restored.TheVariants.{Nothing, Redone}
use Rattle.batch_file.specs.declared.stage.Batch.{Batch}
use Rattle.batch_file.specs.Layout.{Entries, addr, count, entries, first_byte, is_head, is_place, number_at}
use Rattle.batch_file.specs.Redone.{damage}
use Rattle.batch_file.specs.Staged.{staged, Holds}

-- a page of the files 2 to 4, the batch's own, is written
abbrev pub is_own : Call → Bool
is_own (Write a page) = nat_le 2 a.file && nat_le a.file 4
is_own (FailedWrite a) = false
is_own (Cut file) = false
is_own (FailedCut file) = false
is_own Sync = false
is_own FailedSync = false
is_own (Fill file byte) = false

-- a page is written at an address that a batch may name
abbrev pub is_placing : Call → Bool
is_placing (Write a page) = is_place a
is_placing (FailedWrite a) = false
is_placing (Cut file) = false
is_placing (FailedCut file) = false
is_placing Sync = false
is_placing FailedSync = false
is_placing (Fill file byte) = false

-- Where the batch's own files read so, they hold a batch of its form, of these pages at these addresses.
pub record IsBatch (cs : Entries) (m : Image) : Type 0 where
  pub sound : damage m ≡ None
  pub listed : entries m (count m) ≡ cs

-- The calls write pages of the batch's own files alone, and add a page to a batch on whatever disk holds it.
pub record Adds (batch more : Batch) (cs : Entries) (calls : List Call) : Type 0 where
  pub own : list_all is_own calls ≡ true
  pub held : (m : Image) → Holds m batch → Holds (seen_from m calls) more
  pub added : (m : Image) → Holds m batch → staged (seen_from m calls) more ≡ staged m batch ++ cs

-- The calls write pages of the batch's own files alone, and leave a whole batch of these pages there, on whatever disk.
pub record Writes (cs : Entries) (calls : List Call) : Type 0 where
  pub own : list_all is_own calls ≡ true
  pub whole : (m : Image) → IsBatch cs (seen_from m calls)

-- The calls write pages of the batch's own files alone, and leave the whole batch there on whatever disk holds it.
pub record Completes (batch : Batch) (calls : List Call) : Type 0 where
  pub own : list_all is_own calls ≡ true
  pub whole : (m : Image) → Holds m batch → IsBatch (staged m batch) (seen_from m calls)

-- The call writes the head of a batch of n images.
pub record Heads (n : ℕ) (calls : List Call) : Type 0 where
  pub head : List ℕ
  pub call : calls ≡ Write (addr 2 0) head ∷ []
  pub form : is_head (Some head) ≡ true
  pub size : number_at head 8 ≡ n

-- n pages are written, each at an address that a batch may name.
pub record Places (n : ℕ) (calls : List Call) : Type 0 where
  pub size : length calls ≡ n
  pub placing : list_all is_placing calls ≡ true

-- What follows the opening of the gate: n pages go to their places; a sync; the gate is shut; a sync.
pub record Shuts (n : ℕ) (calls : List Call) : Type 0 where
  pub places : List Call
  pub gate : List ℕ
  pub order : calls ≡ places ++ Sync ∷ Write (addr 1 0) gate ∷ Sync ∷ []
  pub placed : Places n places
  pub is_shut : first_byte (Some gate) ≢ 1

-- What applies a batch of n pages: calls of which Own holds; a sync; the gate is opened; a sync; and then what shuts it.
pub record Applies (Own : List Call → Type 0) (n : ℕ) (calls : List Call) : Type 0 where
  pub own : List Call
  pub gate : List ℕ
  pub rest : List Call
  pub order : calls ≡ own ++ Sync ∷ Write (addr 1 0) gate ∷ Sync ∷ rest
  pub written : Own own
  pub is_open : first_byte (Some gate) ≡ 1
  pub shuts : Shuts n rest

-- The same without what shuts the gate.
pub record Opens (Own : List Call → Type 0) (calls : List Call) : Type 0 where
  pub own : List Call
  pub gate : List ℕ
  pub order : calls ≡ own ++ Sync ∷ Write (addr 1 0) gate ∷ Sync ∷ []
  pub written : Own own
  pub is_open : first_byte (Some gate) ≡ 1

-- what a restore that did so much did: a sync, and behind an open gate what shuts it
abbrev pub Restores : Restored → List Call → Type 0
Restores Nothing calls = calls ≡ Sync ∷ []
Restores (Redone n) calls = (rest : List Call) × (calls ≡ Sync ∷ rest) × Shuts n rest
