-- Counts that rise.
use Rattle.std.proofs.Common.{◌≡◌, subst, arith, ℕ, ◌+◌, ◌≤◌}
use Rattle.disk_model.specs.Disk.{RisesUpTo}

pub then_rises : (m n a b c : ℕ) → RisesUpTo m a b → RisesUpTo n b c → RisesUpTo (m + n) a c
then_rises m n a b c one other =
    let l = one.later in let k = one.at_most in let p = other.later in let q = other.at_most in
    record { later = omega (arith, l, p); at_most = omega (arith, k, q) }

pub rises_less : (m n a b : ℕ) → m ≤ n → RisesUpTo m a b → RisesUpTo n a b
rises_less m n a b le one = let k = one.at_most in record { later = one.later; at_most = omega (arith, le, k) }

pub rises_not : (n a b : ℕ) → b ≡ a → RisesUpTo n a b
rises_not n a b same = record { later = omega (arith, same); at_most = omega (arith, same) }

pub rises_as : (m n a b : ℕ) → m ≡ n → RisesUpTo m a b → RisesUpTo n a b
rises_as m n a b same one = subst (λ k. RisesUpTo k a b) same one
