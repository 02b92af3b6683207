-- Which calls make a database, on whatever disk.
use Rattle.std.specs.Prelude.{◌≡◌, ◌≢◌, ℕ, List, [], ◌∷◌, ◌++◌, Option, Some, take}
use Rattle.disk_model.specs.History.{CameSo}
use Rattle.disk_model.specs.declared.calls.Call.{Call}
use Rattle.disk_model.specs.declared.calls.Call.TheVariants.{Write, Sync}
use Rattle.batch_file.specs.Layout.{addr, first_byte}
use Rattle.db_disk.specs.Created.{IsFresh, birth_page, header_bytes}

-- The gate is shut and the header written.
pub record Heads (dba : List ℕ) (calls : List Call) : Type 0 where
  pub gate : List ℕ
  pub header : List ℕ
  pub order : calls ≡ Write (addr 1 0) gate ∷ Write (addr 0 0) header ∷ []
  pub is_shut : first_byte (Some gate) ≢ 1
  pub begins : take 22 header ≡ header_bytes dba

-- The first page of a catalogue is written, without a row.
pub record Clears (file : ℕ) (calls : List Call) : Type 0 where
  pub page : List ℕ
  pub order : calls ≡ Write (addr file 0) page ∷ []
  pub is_fresh : IsFresh (Some page)

-- All but the birth byte is written; a sync.
pub record Prepares (dba : List ℕ) (calls : List Call) : Type 0 where
  pub heads : List Call
  pub entries : List Call
  pub columns : List Call
  pub parts : List Call
  pub order : calls ≡ heads ++ (entries ++ (columns ++ (parts ++ Sync ∷ [])))
  pub headed : Heads dba heads
  pub no_entries : Clears 5 entries
  pub no_columns : Clears 6 columns
  pub no_parts : Clears 7 parts

-- The birth byte is written; a sync.
pub record Bears (calls : List Call) : Type 0 where
  pub page : List ℕ
  pub order : calls ≡ Write birth_page page ∷ Sync ∷ []
  pub is_born : first_byte (Some page) ≡ 1

-- What makes a database: a sync, all but the birth byte, a sync, the birth byte, a sync.
pub record Creates (dba : List ℕ) (calls : List Call) : Type 0 where
  pub first : List Call
  pub last : List Call
  pub order : calls ≡ Sync ∷ (first ++ last)
  pub prepared : Prepares dba first
  pub born : Bears last

-- all but the birth byte was written and made durable, and then the birth byte
abbrev pub BothCame : Option (List Call) → Option (List Call) → List ℕ → Type 0
BothCame old new dba = CameSo old new (λ calls. (first : List Call) × (last : List Call) × (calls ≡ first ++ last) × Prepares dba first × Bears last)
