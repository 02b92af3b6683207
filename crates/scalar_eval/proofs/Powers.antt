-- Numbers that leave 64 bits stay outside while they are multiplied on.
use Rattle.std.proofs.Common.{◌≡◌, ◌≢◌, refl, sym, ap, ◌∙◌, ℕ, zero, suc, ◌+◌, ◌*◌, ◌%◌, ◌<◌, ◌≤◌, ◌==◌, ℤ, pos, negsuc, ◌*ℤ◌, neg_ℤ, nat_abs, Bool, true, false, Some, None, inl, inr, if◌then◌else◌, arith}
use Rattle.std.proofs.Math.Nat.{mul-le-mul_left, mul_comm, eq-or-lt_of_le}
use Rattle.std.proofs.lemmas.Option.{same_Some}
use Rattle.calculus.specs.Number.{has_64_bits, number, repeated}

abs_neg : (n : ℕ) → nat_abs (neg_ℤ (pos n)) ≡ n
abs_neg zero = refl
abs_neg (suc n) = refl

abs_times : (x z : ℤ) → nat_abs (x *ℤ z) ≡ nat_abs x * nat_abs z
abs_times (pos a) (pos b) = refl
abs_times (pos a) (negsuc b) = abs_neg (a * suc b)
abs_times (negsuc a) (pos b) = abs_neg (suc a * b)
abs_times (negsuc a) (negsuc b) = refl

far : (z : ℤ) → 9223372036854775808 < nat_abs z → number z ≡ None
far (pos a) h = grind arith
far (negsuc a) h = grind arith

outside : (z : ℤ) → number z ≡ None → 9223372036854775807 < nat_abs z
outside (pos a) h = grind arith
outside (negsuc a) h = grind arith

doubled : (a b : ℕ) → 2 ≤ a → 2 * b ≤ a * b
doubled a b h = rw (mul_comm 2 b, mul_comm a b) (mul-le-mul_left b h)

grows : (x z : ℤ) → 2 ≤ nat_abs x → number z ≡ None → number (x *ℤ z) ≡ None
grows x z h e =
    let k : 9223372036854775807 < nat_abs z = outside z e in
    let d : 2 * nat_abs z ≤ nat_abs x * nat_abs z = doubled (nat_abs x) (nat_abs z) h in
    far (x *ℤ z) (rw (abs_times x z) (omega (arith, k, d)))

-- a power that has left 64 bits doesn't come back
pub stays_outside : (x : ℤ) (k n : ℕ) → 2 ≤ nat_abs x → k ≤ n → number (repeated x k) ≡ None → number (repeated x n) ≡ None
stays_outside x k zero h l e =
    let z : k ≡ 0 = omega (arith, l) in ap (λ j. number (repeated x j)) (sym z) ∙ e
stays_outside x k (suc n) h l e =
    elim (eq-or-lt_of_le l) [
      | inl same ↦ ap (λ j. number (repeated x j)) (sym same) ∙ e
      | inr less ↦ grows x (repeated x n) h (stays_outside x k n h (omega (arith, less)) e)
    ]

always_one : (n : ℕ) → repeated (pos 1) n ≡ pos 1
always_one zero = refl
always_one (suc n) = ap (λ z. pos 1 *ℤ z) (always_one n)

pub power_of_one : (n : ℕ) → number (repeated (pos 1) n) ≡ Some (pos 1)
power_of_one n = ap number (always_one n)

-- the signs of the powers of -1 take turns
abbrev by_turns : ℕ → ℤ
by_turns n = if n % 2 == 0 then pos 1 else negsuc 0

turns : (n : ℕ) → repeated (negsuc 0) n ≡ by_turns n
turns zero = refl
turns (suc zero) = refl
turns (suc (suc n)) = ap (λ z. negsuc 0 *ℤ (negsuc 0 *ℤ z)) (turns n) ∙ grind arith

pub even_power : (n : ℕ) → n % 2 ≡ 0 → number (repeated (negsuc 0) n) ≡ Some (pos 1)
even_power n h = ap number (turns n) ∙ rw h refl

pub odd_power : (n : ℕ) → n % 2 ≢ 0 → number (repeated (negsuc 0) n) ≡ Some (negsuc 0)
odd_power n h = let one : n % 2 ≡ 1 = omega (arith, h) in ap number (turns n) ∙ rw one refl

-- the power leaves 64 bits where one step does
pub left_at_step : (x y p : ℤ) (k n : ℕ) → y ≡ x → 2 ≤ nat_abs x → k < n → p ≡ repeated y k → None ≡ number (y *ℤ p) → None ≡ number (repeated x n)
left_at_step x y p k n e h l i o =
    sym (stays_outside x (suc k) n h l (ap (λ z. number (z *ℤ repeated z k)) (sym e) ∙ ap (λ q. number (y *ℤ q)) (sym i) ∙ sym o))

there : (b : Bool) (z n : ℤ) → Some n ≡ (if b then Some z else None) → n ≡ z
there true z n h = same_Some n z h
there false z n h = cc h

-- the next power is there where its number has 64 bits
pub next_power : (y p next : ℤ) (k : ℕ) → p ≡ repeated y k → Some next ≡ number (y *ℤ p) → next ≡ repeated y (k + 1)
next_power y p next k i h =
    let e : k + 1 ≡ suc k = omega arith in
    there (has_64_bits (y *ℤ p)) (y *ℤ p) next h ∙ ap (λ q. y *ℤ q) i ∙ ap (repeated y) (sym e)
