-- Work that is counted: a batch comes to an end after so many statements, and a script after so many reads.
use Rattle.std.specs.Prelude.{◌≡◌, ◌⊎◌, ◌<◌, ◌+◌, ℕ, zero, suc}
use Rattle.network_meaning.specs.Sorts.{Sorts, Event.leaves, Next.found}
use Rattle.network_meaning.specs.Language.{Language}
use Rattle.network_meaning.specs.WorkLeft.{Work, next_work, event_work}

-- what the rest of a batch costs
abbrev pub BatchWork : Sorts → Type 0
BatchWork S = S.Db → S.Shelf → S.Ranges → S.Batch → ℕ

-- what the rest of a script costs
abbrev pub ScriptWork : Sorts → Type 0
ScriptWork S = S.Db → S.Shelf → S.Ranges → S.Monitor → S.Script → ℕ

-- batches and scripts cost this, and a tree or a change has so many frames
abbrev pub costs : {S : Sorts} (L : Language S) → ℕ → BatchWork S → ScriptWork S → Work L
costs L most batch script = record { batch_work = batch; script_work = script; most = most }

-- nothing is left of a script
abbrev pub no_script : {S : Sorts} (L : Language S) → ScriptWork S
no_script L db shelf ranges m script = 0

-- what a batch costs, of which at most so many statements are read
unfoldable pub batch_within : {S : Sorts} (L : Language S) → ℕ → ℕ → BatchWork S
batch_within L most zero db shelf ranges b = 0
batch_within L most (suc n) db shelf ranges b = 1 + next_work L (costs L most (batch_within L most n) (no_script L)) db shelf ranges (L.next b)

-- what a script costs, of which is read at most so many times
unfoldable pub script_within : {S : Sorts} (L : Language S) → ℕ → BatchWork S → ℕ → ScriptWork S
script_within L most batch zero db shelf ranges m script = 0
script_within L most batch (suc n) db shelf ranges m script =
    1 + (let got = L.read m script shelf in event_work L (costs L most batch (script_within L most batch n)) db ranges got got.event)

-- what a batch costs that has so many statements at most
abbrev pub batch_of : {S : Sorts} (L : Language S) → ℕ → (S.Batch → ℕ) → BatchWork S
batch_of L most statements db shelf ranges b = batch_within L most (suc (statements b)) db shelf ranges b

-- what a script costs that is read so many times at most
abbrev pub script_of : {S : Sorts} (L : Language S) → ℕ → (S.Batch → ℕ) → (S.Monitor → S.Script → ℕ) → ScriptWork S
script_of L most statements reads db shelf ranges m script = script_within L most (batch_of L most statements) (suc (reads m script)) db shelf ranges m script

-- the work, where batches have so many statements, scripts are read so many times, and trees and changes have so many frames at most
abbrev pub counted : {S : Sorts} (L : Language S) → ℕ → (S.Batch → ℕ) → (S.Monitor → S.Script → ℕ) → Work L
counted L most statements reads = costs L most (batch_of L most statements) (script_of L most statements reads)

-- behind each statement fewer are left
abbrev pub StatementsFall : {S : Sorts} → Language S → (S.Batch → ℕ) → Type 0
StatementsFall {S = S} L statements = (b : S.Batch) (s : S.Statement) (line : ℕ) (rest : S.Batch) → L.next b ≡ found s line rest → statements rest < statements b

-- behind each read fewer are left, unless the monitor leaves
abbrev pub ReadsFall : {S : Sorts} → Language S → (S.Monitor → S.Script → ℕ) → Type 0
ReadsFall {S = S} L reads = (m : S.Monitor) (script : S.Script) (shelf : S.Shelf) → let got = L.read m script shelf in (got.event ≡ leaves) ⊎ (reads got.monitor got.script < reads m script)
