-- The bytes at the front of a header.
use Rattle.std.proofs.Common.{◌≡◌, ℕ, ◌-◌, ◌≤◌, ap, subst, arith, List, ◌++◌, length, take, drop, replicate}
use Rattle.std.proofs.lemmas.List.{length-append, length-replicate}
use Rattle.std.proofs.Math.Seq.{take-append_seam}
use Rattle.page_cells.specs.RowBytes.{filled}
use Rattle.db_disk.specs.Created.{header_bytes, mark}

-- a name of at most 12 bytes is filled up to 12
length-filled : (name : List ℕ) → length name ≤ 12 → length (filled name 12) ≡ 12
length-filled name short = omega (arith, length-append name (replicate (12 - length name) 32), length-replicate {A = ℕ} (12 - length name) 32)

pub header_front : (old name rest : List ℕ) → length name ≤ 12 → take 22 (take 10 (mark ++ drop 10 old) ++ (filled name 12 ++ rest)) ≡ header_bytes name
header_front old name rest short =
    ap (λ l. mark ++ l) (subst (λ n. take n (filled name 12 ++ rest) ≡ filled name 12) (length-filled name short) (take-append_seam (filled name 12) rest))
