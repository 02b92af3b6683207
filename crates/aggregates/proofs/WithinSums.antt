-- The sums of numbers of 64 bits.
use Rattle.std.proofs.Common.{◌≡◌, sym, ap, ◌∙◌, ℕ, zero, suc, ◌<◌, ◌≤◌, ◌*◌, ◌/◌, ◌+◌, ℤ, pos, negsuc, ◌+ℤ◌, neg_ℤ, int_div, FitsSigned, to_z, of_z, w64, arith, List, ◌∷◌, get_or, drop, length, add-one}
use Rattle.std.proofs.Math.Seq.{drop-cons}
use Rattle.std.proofs.Math.Nat.{div-le_of_le-mul}
use Rattle.std.proofs.Math.IntN.{+ℤ_assoc}
use Rattle.std.specs.Int.{w128}
use Rattle.std.specs.Int.Signed.{mag}
use Rattle.std.proofs.lemmas.Int.{ints, to_z-of_z}
use Rattle.calculus.specs.declared.value.Value.{Value}
use Rattle.calculus.specs.Aggregate.{number_in, total}
use Rattle.aggregates.specs.Sums.{IsSumOf}

pub no_sum : IsSumOf 0 (pos 0)
no_sum = record { least = omega arith; greatest = omega arith }

pub one_more : (n : ℕ) (sum x new : ℤ) → IsSumOf n sum → FitsSigned w64 x → new ≡ sum +ℤ x → IsSumOf (n + 1) new
one_more n sum x new h f e = record { least = omega (arith, ints, h.least, f.sfits, e); greatest = omega (arith, ints, h.greatest, f.sfits, e) }

-- a sum of few numbers has 128 bits
pub sum_fits : (n : ℕ) (sum : ℤ) → n ≤ 18446744073709551615 → IsSumOf n sum → FitsSigned w128 sum
sum_fits n (pos a) few h = record { sfits = omega (arith, ints, h.greatest, few) }
sum_fits n (negsuc a) few h = record { sfits = omega (arith, ints, h.least, few) }

mag_neg : (n m : ℕ) → n ≤ suc m → mag (neg_ℤ (pos n)) ≤ m
mag_neg zero m h = omega arith
mag_neg (suc n) m h = omega (arith, h)

-- the number of them divides it to one of 64 bits
pub shared_fits : (n : ℕ) (sum : ℤ) → 0 < n → IsSumOf n sum → FitsSigned w64 (int_div sum (pos n))
shared_fits n (pos a) some h =
    let least : a ≤ n * 9223372036854775807 = omega (arith, ints, h.greatest) in
    let few : a / n ≤ 9223372036854775807 = div-le_of_le-mul n least in
    record { sfits = omega (arith, few) }
shared_fits n (negsuc a) some h =
    let least : suc a ≤ n * 9223372036854775808 = omega (arith, ints, h.least) in
    let few : suc a / n ≤ 9223372036854775808 = div-le_of_le-mul n least in
    let small : mag (neg_ℤ (pos (suc a / n))) ≤ 9223372036854775807 = mag_neg (suc a / n) 9223372036854775807 (omega (arith, few)) in
    record { sfits = omega (arith, small) }

pub shared_read : (n : ℕ) (sum : ℤ) → n < 18446744073709551616 → FitsSigned w128 sum
    → int_div (to_z w128 (of_z w128 sum)) (to_z w128 n) ≡ int_div sum (pos n)
shared_read n sum few fits = let count : to_z w128 n ≡ pos n = omega (arith, ints, few) in λ i. int_div (to_z-of_z w128 sum fits i) (count i)

wider : (x : ℤ) → FitsSigned w64 x → FitsSigned w128 x
wider x f = record { sfits = omega (arith, f.sfits) }

pub quotient_fits : (n : ℕ) (sum : ℤ) → 0 < n → n < 18446744073709551616 → FitsSigned w128 sum → IsSumOf n sum
    → FitsSigned w64 (to_z w128 (of_z w128 (int_div (to_z w128 (of_z w128 sum)) (to_z w128 n))))
quotient_fits n sum some few fits h =
    let is = shared_fits n sum some h in
    rw (shared_read n sum few fits, to_z-of_z w128 (int_div sum (pos n)) (wider _ is)) is

pub quotient_is : (n : ℕ) (sum : ℤ) → 0 < n → n < 18446744073709551616 → FitsSigned w128 sum → IsSumOf n sum
    → to_z w64 (of_z w64 (to_z w128 (of_z w128 (int_div (to_z w128 (of_z w128 sum)) (to_z w128 n))))) ≡ int_div sum (pos n)
quotient_is n sum some few fits h =
    let is = shared_fits n sum some h in
    ap (λ q. to_z w64 (of_z w64 (to_z w128 (of_z w128 q)))) (shared_read n sum few fits)
    ∙ ap (λ q. to_z w64 (of_z w64 q)) (to_z-of_z w128 (int_div sum (pos n)) (wider _ is)) ∙ to_z-of_z w64 (int_div sum (pos n)) is

-- one more value is added
pub added : (s x : ℤ) → FitsSigned w64 x → FitsSigned w128 (s +ℤ x) → to_z w128 (of_z w128 (s +ℤ to_z w128 (of_z w128 (to_z w64 (of_z w64 x))))) ≡ s +ℤ x
added s x f g =
    ap (λ y. to_z w128 (of_z w128 (s +ℤ to_z w128 (of_z w128 y)))) (to_z-of_z w64 x f)
    ∙ ap (λ y. to_z w128 (of_z w128 (s +ℤ y))) (to_z-of_z w128 x (wider x f)) ∙ to_z-of_z w128 (s +ℤ x) g

dropped : (vs : List Value) (i : ℕ) (v : Value) → i < length vs → v ≡ get_or vs i v → drop i vs ≡ v ∷ drop (i + 1) vs
dropped vs i v h e = drop-cons vs i v h ∙ (λ j. sym e j ∷ drop (sym (add-one i) j) vs)

regrouped : (s x t : ℤ) → (s +ℤ x) +ℤ t ≡ s +ℤ (x +ℤ t)
regrouped s x t = +ℤ_assoc s x t

pub next_total : (vs : List Value) (i : ℕ) (v : Value) (s x new : ℤ) → i < length vs → v ≡ get_or vs i v → x ≡ number_in v → new ≡ s +ℤ x
    → s +ℤ total (drop i vs) ≡ total vs → new +ℤ total (drop (i + 1) vs) ≡ total vs
next_total vs i v s x new h is number made before =
    ap (λ n. n +ℤ total (drop (i + 1) vs)) made ∙ regrouped s x (total (drop (i + 1) vs))
    ∙ ap (λ n. s +ℤ (n +ℤ total (drop (i + 1) vs))) number ∙ ap (λ ws. s +ℤ total ws) (sym (dropped vs i v h is)) ∙ before
