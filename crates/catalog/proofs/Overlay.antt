-- Images of which one file, or all files but some, are those of another.
use Rattle.std.proofs.Common.{◌≡◌, refl, ap, ℕ, ◌<◌, ◌≤◌, ◌==◌, nat_le, nat_lt, Bool, true, false, List, Option, arith}
use Rattle.std.proofs.lemmas.Bool.Decides.{nat_tests}
use Rattle.am_traits.specs.Pages.{SameElsewhere}
use Rattle.disk_model.specs.Disk.{Image}
use Rattle.disk_model.specs.declared.disk.Addr.{Addr}
use Rattle.page_chain.specs.Pages.{page_at, pages_of}
use Rattle.stored_database.proofs.Reading.{number_itself, same_number}

-- the one page where the test passes, else the other
abbrev pub page_if : Bool → Option (List ℕ) → Option (List ℕ) → Option (List ℕ)
page_if b one other = elim b [ true ↦ one | false ↦ other ]

-- the image, with this file as another image has it
abbrev pub with_file_of : ℕ → Image → Image → Image
with_file_of file other m = λ b. page_if (b.file == file) (other b) (m b)

pub file_there : (file : ℕ) (other m : Image) → pages_of (with_file_of file other m) file ≡ pages_of other file
file_there file other m = λ i page. page_if (number_itself file i) (other (page_at file page)) (m (page_at file page))

pub file_elsewhere : (file : ℕ) (other m : Image) → SameElsewhere file m (with_file_of file other m)
file_elsewhere file other m b differ = go (b.file == file) refl
  where
    go : (t : Bool) → (b.file == file) ≡ t → page_if t (other b) (m b) ≡ m b
    go true e = absurd (differ (same_number b.file file e))
    go false e = refl

-- the pages of each other file are those of the image
pub other_file : (file n : ℕ) (other m : Image) → (n ≡ file → ⊥) → pages_of (with_file_of file other m) n ≡ pages_of m n
other_file file n other m differ = λ i page. file_elsewhere file other m (page_at n page) differ i

-- the image, with the first files as another image has them
abbrev pub with_first_of : Image → Image → Image
with_first_of other m = λ b. page_if (nat_lt b.file 16) (other b) (m b)

pub first_there : (other m : Image) (b : Addr) → b.file < 16 → with_first_of other m b ≡ other b
first_there other m b low = ap (λ t. page_if t (other b) (m b)) (is_low b.file low)
  where
    is_low : (n : ℕ) → n < 16 → nat_lt n 16 ≡ true
    is_low n low = grind (arith, nat_tests)

pub later_there : (other m : Image) (b : Addr) → 16 ≤ b.file → with_first_of other m b ≡ m b
later_there other m b high = ap (λ t. page_if t (other b) (m b)) (is_high b.file high)
  where
    is_high : (n : ℕ) → 16 ≤ n → nat_lt n 16 ≡ false
    is_high n high = grind (arith, nat_tests)

pub later_file : (n : ℕ) (other m : Image) → 16 ≤ n → pages_of (with_first_of other m) n ≡ pages_of m n
later_file n other m high = λ i page. later_there other m (page_at n page) high i

-- a file that isn't one of the first
pub high_file : (n : ℕ) → nat_le 16 n ≡ true → 16 ≤ n
high_file n h = grind (arith, nat_tests)

pub not_first : (file n : ℕ) → 16 ≤ file → n < 16 → n ≡ file → ⊥
not_first file n high low e = omega (arith, high, low, e)
