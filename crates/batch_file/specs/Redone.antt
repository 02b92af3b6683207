-- The pages that an image stands for once a batch that was begun is applied to them.
use Rattle.std.specs.Prelude.{◌≢◌, ℕ, zero, suc, ◌/◌, ◌==◌, ◌||◌, nat_le, Bool, true, false, List, [], ◌∷◌, Option, Some, None, if◌then◌else◌, Result, Ok, Err}
use Rattle.disk_model.specs.Disk.{Image, IsImage, is_at}
use Rattle.disk_model.specs.declared.disk.Addr.{Addr}
use Rattle.batch_file.specs.declared.fault.Restored.{Restored}
use Rattle.batch_file.specs.declared.fault.Restored.TheVariants.{Nothing, Redone}
use Rattle.batch_file.specs.declared.fault.RestoreFault.{RestoreFault}
use Rattle.batch_file.specs.declared.fault.RestoreFault.TheVariants.{Damaged}
use Rattle.batch_file.specs.Layout.{Entries, addr, gate, count, is_head, is_lawful, has_image, entries}

-- in no image is the gate open
abbrev pub IsShut : Image → (Addr → Type 0) → Type 0
IsShut seen touched = (m : Image) → IsImage seen touched m → gate m ≢ 1

-- the earlier failing number, or this one where its test fails
abbrev pub next_failing : Option ℕ → Bool → ℕ → Option ℕ
next_failing (Some k) passes n = Some k
next_failing None true n = None
next_failing None false n = Some n

-- the first number below n that fails a test
abbrev pub first_failing : (ℕ → Bool) → ℕ → Option ℕ
first_failing ok zero = None
first_failing ok (suc n) = next_failing (first_failing ok n) (ok n) n

-- the first page at fault, in the order head, addresses, images
abbrev pub damage_of : Bool → Option ℕ → Option ℕ → Option Addr
damage_of false address image = Some (addr 2 0)
damage_of true (Some k) image = Some (addr 3 (k / 128))
damage_of true None (Some k) = Some (addr 4 k)
damage_of true None None = None

-- the first page at fault of the batch, and None where it is of its form
unfoldable pub damage : Image → Option Addr
damage m = damage_of (is_head (m (addr 2 0))) (first_failing (is_lawful m) (count m)) (first_failing (has_image m) (count m))

-- a page at b, with the changes at b laid over it, the last of them last
abbrev pub latest : Entries → Addr → Option (List ℕ) → Option (List ℕ)
latest [] b page = page
latest (c ∷ cs) b page = latest cs b (if is_at b c.0 then Some c.1 else page)

-- an image with changes laid over it
abbrev pub laid : Entries → Image → Image
laid cs m = λ b. latest cs b (m b)

-- the files whose pages count: file 0, and those from 5 up
abbrev pub is_kept : ℕ → Bool
is_kept file = (file == 0) || nat_le 5 file

-- the pages that count
abbrev pub kept : Image → Image
kept m = λ b. if is_kept b.file then m b else None

-- the plain pages where the gate is shut, those with the batch laid where it is of its form, else none
abbrev pub redone_of : Bool → Option Addr → Image → Image → Option Image
redone_of false damaged plain over = Some plain
redone_of true None plain over = Some over
redone_of true (Some a) plain over = None

-- the pages that count, with the batch laid over them where the gate is open
unfoldable pub redone : Image → Option Image
redone m = redone_of (gate m == 1) (damage m) (kept m) (kept (laid (entries m (count m)) m))

-- Nothing where the gate is shut, the count of a batch of its form, else the page at fault
abbrev pub answer_of : Bool → Option Addr → ℕ → Result Restored RestoreFault
answer_of false damaged n = Ok Nothing
answer_of true None n = Ok (Redone n)
answer_of true (Some a) n = Err (Damaged a.file a.page)

-- what `restore` answers where the disk does not fail
abbrev pub answer : Image → Result Restored RestoreFault
answer m = answer_of (gate m == 1) (damage m) (count m)
