-- Calls behind calls, while a database is made.
use Rattle.std.proofs.Common.{◌≡◌, ◌≢◌, ℕ, List, [], ◌∷◌, Option, Some, refl, ap, take}
use Rattle.disk_model.specs.History.{Came, CameSo}
use Rattle.disk_model.specs.declared.calls.Call.{Call}
use Rattle.disk_model.specs.declared.calls.Call.TheVariants.{Write, Sync}
use Rattle.batch_file.specs.Layout.{addr, first_byte}
use Rattle.batch_file.proofs.Calling.{came_then}
use Rattle.db_disk.specs.Created.{IsFresh, birth_page, header_bytes}
use Rattle.db_disk.specs.Making.{Bears, BothCame, Clears, Creates, Heads, Prepares}

abbrev KnownCalls : Type 0
KnownCalls = Option (List Call)

pub heads : (a b c : KnownCalls) (dba gate header : List ℕ) → Came a b (Write (addr 1 0) gate ∷ []) → Came b c (Write (addr 0 0) header ∷ []) → first_byte (Some gate) ≢ 1 → take 22 header ≡ header_bytes dba
    → CameSo a c (Heads dba)
heads a b c dba gate header one two shut begins =
    (_, came_then a b c _ _ one two, record { gate = gate; header = header; order = refl; is_shut = shut; begins = begins })

pub clears : (a b : KnownCalls) (file : ℕ) (page : List ℕ) → Came a b (Write (addr file 0) page ∷ []) → IsFresh (Some page) → CameSo a b (Clears file)
clears a b file page one fresh = (_, one, record { page = page; order = refl; is_fresh = fresh })

pub prepares : (a b c d e f : KnownCalls) (dba : List ℕ) → CameSo a b (Heads dba) → CameSo b c (Clears 5) → CameSo c d (Clears 6) → CameSo d e (Clears 7) → Came e f (Sync ∷ []) → CameSo a f (Prepares dba)
prepares a b c d e f dba one two three four sync = (
  _,
  came_then a b f _ _ one.1 (came_then b c f _ _ two.1 (came_then c d f _ _ three.1 (came_then d e f _ _ four.1 sync))),
  record { heads = one.0; entries = two.0; columns = three.0; parts = four.0; order = refl; headed = one.2; no_entries = two.2; no_columns = three.2; no_parts = four.2 },
)

pub bears : (a b c : KnownCalls) (page : List ℕ) → Came a b (Write birth_page page ∷ []) → Came b c (Sync ∷ []) → first_byte (Some page) ≡ 1 → CameSo a c Bears
bears a b c page one two is = (_, came_then a b c _ _ one two, record { page = page; order = refl; is_born = is })

pub both : (a b c : KnownCalls) (dba : List ℕ) → CameSo a b (Prepares dba) → CameSo b c Bears → BothCame a c dba
both a b c dba one two = (_, came_then a b c _ _ one.1 two.1, (one.0, two.0, refl, one.2, two.2))

pub creates : (a b c : KnownCalls) (dba : List ℕ) → Came a b (Sync ∷ []) → BothCame b c dba → CameSo a c (Creates dba)
creates a b c dba one two =
    (_, came_then a b c _ _ one two.1, record { first = two.2.0; last = two.2.1; order = ap (λ l. Sync ∷ l) two.2.2; prepared = two.2.3; born = two.2.4 })
