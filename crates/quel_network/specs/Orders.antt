-- How numbers and sums are ordered.
use Rattle.std.specs.Prelude.{◌≡◌, ◌≤◌, ◌+◌, ℕ, suc}
use Rattle.std.proofs.Common.{arith}

pub within_itself : (n : ℕ) → n ≤ n
within_itself n = omega arith

pub within_same : (k n : ℕ) → k ≡ n → k ≤ n
within_same k n e = omega (arith, e)

pub within_through : (k m n : ℕ) → k ≤ m → m ≤ n → k ≤ n
within_through k m n h g = omega arith

pub suc_within : (k n : ℕ) → k ≤ n → suc k ≤ suc n
suc_within k n h = omega arith

pub suc_through : (k m n : ℕ) → k ≤ suc m → m ≤ n → k ≤ suc n
suc_through k m n h g = omega arith

pub more_within : (a k n : ℕ) → k ≤ n → a + k ≤ a + n
more_within a k n h = omega arith

pub within_first : (k m n : ℕ) → k ≤ m → k ≤ m + n
within_first k m n h = omega arith

pub within_second : (k m n : ℕ) → k ≤ n → k ≤ m + n
within_second k m n h = omega arith

pub sum_within : (k a b m n : ℕ) → k ≡ a + b → a ≤ m → b ≤ n → k ≤ m + n
sum_within k a b m n e h g = omega (arith, e)
