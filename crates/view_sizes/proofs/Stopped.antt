-- Numbers that stop at the greatest of 64 bits.
use Rattle.std.proofs.Common.{◌≡◌, refl, ℕ, ◌-◌, ◌^◌, ◌<◌, ◌≤◌, min, nat_le, nat_lt, arith, Bool, true, false}
use Rattle.std.proofs.lemmas.Bool.{le-leb, lt-leb, leb-true, leb-false, lt-ltb, le-ltb, ltb-true, ltb-false}

-- a small bound is met by a number exactly where it is met by the number that stops at the greatest of 64 bits
pub stopped_le : (n k : ℕ) → k ≤ 3000 → nat_le (min n (2 ^ 64 - 1)) k ≡ nat_le n k
stopped_le n k small = go (nat_le n k) refl
  where
    go : (b : Bool) → nat_le n k ≡ b → nat_le (min n (2 ^ 64 - 1)) k ≡ b
    go true e = let less : n ≤ k = leb-true n k e in le-leb _ _ (omega arith)
    go false e = let more : k < n = leb-false n k e in lt-leb _ _ (omega arith)

-- so it is passed
pub stopped_lt : (k n : ℕ) → k ≤ 3000 → nat_lt k (min n (2 ^ 64 - 1)) ≡ nat_lt k n
stopped_lt k n small = go (nat_lt k n) refl
  where
    go : (b : Bool) → nat_lt k n ≡ b → nat_lt k (min n (2 ^ 64 - 1)) ≡ b
    go true e = let more : k < n = ltb-true k n e in lt-ltb _ _ (omega arith)
    go false e = let less : n ≤ k = ltb-false k n e in le-ltb _ _ (omega arith)
