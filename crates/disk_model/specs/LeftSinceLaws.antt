-- What a crash of a disk in memory may leave from now on is what it may leave now.
use Rattle.std.specs.Prelude.{◌≡◌, ℕ, zero, suc, ◌≤◌, List, [], ◌∷◌, length, take, refl}
use Rattle.std.proofs.Common.{sym, ap, subst, arith}
use Rattle.disk_model.specs.declared.calls.Call.{Call}
use Rattle.disk_model.specs.Disk.{Image, IsImage}
use Rattle.disk_model.specs.Calls.{seen_from, touched_of, LeftSince}

-- the first n calls of no more than n are all of them
all_of : (cs : List Call) (n : ℕ) → length cs ≤ n → take n cs ≡ cs
all_of [] zero le = refl
all_of [] (suc n) le = refl
all_of (c ∷ cs) zero le = absurd (omega arith)
all_of (c ∷ cs) (suc n) le = ap (λ (l : List Call). c ∷ l) (all_of cs n (omega arith))

-- what a crash after all calls leaves is an image of now
pub only_now_of : (first : Image) (cs : List Call) (m : Image) → LeftSince first cs (length cs) m → IsImage (seen_from first cs) (touched_of cs) m
only_now_of first cs m left =
    subst (λ l. IsImage (seen_from first l) (touched_of l) m) (all_of cs left.at left.late) left.image

-- an image of now is what a crash since an earlier moment may have left
pub counts_now_of : (first : Image) (cs : List Call) (t : ℕ) (m : Image) → t ≤ length cs → IsImage (seen_from first cs) (touched_of cs) m → LeftSince first cs t m
counts_now_of first cs t m le image = record {
  at = length cs;
  late = le;
  there = omega arith;
  image = subst (λ l. IsImage (seen_from first l) (touched_of l) m) (sym (all_of cs (length cs) (omega arith))) image;
}
