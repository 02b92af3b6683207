-- What the calls that read a batch answer, and why.
use Rattle.std.specs.Prelude.{◌≡◌, ℕ, ◌/◌, ◌%◌, ◌≤◌, ◌<◌, List, Option, Some, None, Result, Ok, Err, IsErrOf, true, false}
use Rattle.fault_io.specs.Causes.{Rose}
use Rattle.disk_model.specs.Disk.{Image}
use Rattle.disk_model.specs.declared.disk.Addr.{Addr}
use Rattle.batch_file.specs.declared.fault.RestoreFault.{RestoreFault}
use Rattle.batch_file.specs.declared.fault.RestoreFault.TheVariants.{Disk, Damaged}
use Rattle.batch_file.specs.Layout.{addr, address_in, count, has_image, is_head, is_lawful, or_empty}
use Rattle.batch_file.specs.Redone.{first_failing}

-- The count never falls; `Disk` comes only where it rose, and any other answer only where it stayed.
pub record FailsBy {T : Type 0} (before now : ℕ) (result : Result T RestoreFault) : Type 0 where
  pub later : before ≤ now
  pub failed : IsErrOf result Disk → Rose before now
  pub answered : (IsErrOf result Disk → ⊥) → now ≡ before

-- Ok is the page that is there, and damage means that there is none.
abbrev pub IsPage : Option (List ℕ) → Addr → List ℕ → Result Unit RestoreFault → Type 0
IsPage page a out (Ok done) = page ≡ Some out
IsPage page a out (Err Disk) = Unit {0}
IsPage page a out (Err (Damaged file n)) = (page ≡ None) × (file ≡ a.file) × (n ≡ a.page)

-- the buffer is the page of address k, unless address k is the first there
abbrev pub IsBuffered : Image → ℕ → List ℕ → Type 0
IsBuffered m k buffer = 0 < k % 128 → m (addr 3 (k / 128)) ≡ Some buffer

-- Ok is address k, and damage means that it is not there or not one that a batch may name.
abbrev pub IsAddress : Image → ℕ → Result Addr RestoreFault → Type 0
IsAddress m k (Ok a) = (is_lawful m k ≡ true) × (a ≡ address_in (or_empty (m (addr 3 (k / 128)))) k)
IsAddress m k (Err Disk) = Unit {0}
IsAddress m k (Err (Damaged file n)) = (is_lawful m k ≡ false) × (file ≡ 3) × (n ≡ k / 128)

-- Ok is the count of a head of its form, and damage means that it isn't of its form.
abbrev pub IsHeadOf : Image → Result ℕ RestoreFault → Type 0
IsHeadOf m (Ok n) = (is_head (m (addr 2 0)) ≡ true) × (count m ≡ n)
IsHeadOf m (Err Disk) = Unit {0}
IsHeadOf m (Err (Damaged file n)) = (is_head (m (addr 2 0)) ≡ false) × (file ≡ 2) × (n ≡ 0)

-- Ok means that each of the first n addresses is lawful, and damage names the page of the first that isn't.
abbrev pub AreLawful : Image → ℕ → Result Unit RestoreFault → Type 0
AreLawful m n (Ok done) = first_failing (is_lawful m) n ≡ None
AreLawful m n (Err Disk) = Unit {0}
AreLawful m n (Err (Damaged file page)) = (k : ℕ) × (first_failing (is_lawful m) n ≡ Some k) × (file ≡ 3) × (page ≡ k / 128)

-- Ok means that each of the first n images is there, and damage names the first that isn't.
abbrev pub AreThere : Image → ℕ → Result Unit RestoreFault → Type 0
AreThere m n (Ok done) = first_failing (has_image m) n ≡ None
AreThere m n (Err Disk) = Unit {0}
AreThere m n (Err (Damaged file page)) = (k : ℕ) × (first_failing (has_image m) n ≡ Some k) × (file ≡ 4) × (page ≡ k)

-- the damage, or the count where there is none
abbrev pub IsAnswerOf : Option Addr → ℕ → Result ℕ RestoreFault → Type 0
IsAnswerOf (Some a) n result = result ≡ Err (Damaged a.file a.page)
IsAnswerOf None n result = result ≡ Ok n
