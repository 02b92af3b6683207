-- Operations on numbers of 64 bits stay within 128 bits.
use Rattle.std.proofs.Common.{◌≡◌, ◌∙◌, ℕ, zero, suc, ◌≤◌, ◌/◌, ℤ, pos, negsuc, ◌*ℤ◌, neg_ℤ, int_div, int_rem, FitsSigned, to_z, of_z, w64, arith}
use Rattle.std.proofs.Math.Nat.{div-le_self}
use Rattle.std.specs.Int.{w128}
use Rattle.std.specs.Int.Signed.{mag, nat_abs-le}
use Rattle.std.proofs.lemmas.Int.{to_z-of_z, fits_signed_mul, quot_is, rem_is}

wider : (x : ℤ) → FitsSigned w64 x → FitsSigned w128 x
wider x f = record { sfits = omega (arith, f.sfits) }

read_is : (x : ℤ) → FitsSigned w64 x → to_z w64 (of_z w64 x) ≡ x
read_is x f = to_z-of_z w64 x f

mag_neg : (n : ℕ) → mag (neg_ℤ (pos n)) ≤ n
mag_neg zero = omega arith
mag_neg (suc n) = omega arith

quotient_fits : (x y : ℤ) → FitsSigned w64 x → FitsSigned w128 (int_div x y)
quotient_fits (pos a) (pos b) f = record { sfits = omega (arith, div-le_self a b, f.sfits) }
quotient_fits (pos a) (negsuc b) f = record { sfits = omega (arith, mag_neg (a / suc b), div-le_self a (suc b), f.sfits) }
quotient_fits (negsuc a) (pos b) f = record { sfits = omega (arith, mag_neg (suc a / b), div-le_self (suc a) b, f.sfits) }
quotient_fits (negsuc a) (negsuc b) f = record { sfits = omega (arith, div-le_self (suc a) (suc b), f.sfits) }

pub product_read : (x y : ℤ) → FitsSigned w64 x → FitsSigned w64 y → to_z w128 (of_z w128 (to_z w128 (of_z w128 (to_z w64 (of_z w64 x))) *ℤ to_z w128 (of_z w128 (to_z w64 (of_z w64 y))))) ≡ x *ℤ y
product_read x y f g =
    (λ i. to_z w128 (of_z w128 (to_z w128 (of_z w128 (read_is x f i)) *ℤ to_z w128 (of_z w128 (read_is y g i)))))
    ∙ (λ i. to_z w128 (of_z w128 (to_z-of_z w128 x (wider x f) i *ℤ to_z-of_z w128 y (wider y g) i)))
    ∙ to_z-of_z w128 (x *ℤ y) (fits_signed_mul w128 x y 9223372036854775808 9223372036854775808 (nat_abs-le x f.sfits) (nat_abs-le y g.sfits) (omega arith))

pub quotient_read : (x y : ℤ) → FitsSigned w64 x → FitsSigned w64 y → to_z w128 (of_z w128 (int_div (to_z w128 (of_z w128 (to_z w64 (of_z w64 x)))) (to_z w128 (of_z w128 (to_z w64 (of_z w64 y)))))) ≡ int_div x y
quotient_read x y f g =
    (λ i. to_z w128 (of_z w128 (int_div (to_z w128 (of_z w128 (read_is x f i))) (to_z w128 (of_z w128 (read_is y g i))))))
    ∙ quot_is w128 x y (wider x f) (wider y g) (quotient_fits x y f)

pub remainder_read : (x y : ℤ) → FitsSigned w64 x → FitsSigned w64 y → to_z w128 (of_z w128 (int_rem (to_z w128 (of_z w128 (to_z w64 (of_z w64 x)))) (to_z w128 (of_z w128 (to_z w64 (of_z w64 y)))))) ≡ int_rem x y
remainder_read x y f g =
    (λ i. to_z w128 (of_z w128 (int_rem (to_z w128 (of_z w128 (read_is x f i))) (to_z w128 (of_z w128 (read_is y g i))))))
    ∙ rem_is w128 x y (wider x f) (wider y g)
