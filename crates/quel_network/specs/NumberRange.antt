-- Operations on numbers of 64 bits give such numbers or none.
use Rattle.std.specs.Prelude.{nat_lt, ◌≡◌, ℕ, zero, suc, ◌*◌, ◌≤◌, ◌/◌, ℤ, pos, negsuc, ◌+ℤ◌, ◌-ℤ◌, ◌*ℤ◌, ◌≤ℤ◌, neg_ℤ, nat_abs, int_div, int_rem, FitsSigned, Bool, true, false, IsTrue, cond, List, [], ◌∷◌, length, Option, Some, None}
use Rattle.std.proofs.Common.{refl, w64, arith}
use Rattle.std.proofs.Math.Nat.{div-le_of_le-mul}
use Rattle.std.proofs.lemmas.Bool.{and_parts, and_from, le-ltb, ltb-true, ltb-false}
use Rattle.std.specs.Ordering.{is_le}
use Rattle.std.specs.declared.cmp.Ordering.TheVariants.{Less, Equal, Greater}
use Rattle.std.proofs.lemmas.Int.{ints}
use Rattle.std.specs.Int.Signed.{mag}
use Rattle.calculus.specs.declared.operator.ArithOp.{ArithOp}
use Rattle.calculus.specs.declared.operator.ArithOp.TheVariants.{Add, Sub, Mul, Div, Pow, Mod}
use Rattle.calculus.specs.declared.value.Domain.TheVariants.{I1, I2, I4, C}
use Rattle.calculus.specs.declared.value.Kind.{Kind}
use Rattle.calculus.specs.declared.value.Kind.TheVariants.{Of, Wide}
use Rattle.calculus.specs.declared.value.Value.{Value}
use Rattle.calculus.specs.declared.value.Value.TheVariants.{Int, Text}
use Rattle.calculus.specs.Aggregate.{total, average}
use Rattle.calculus.specs.Number.{has_64_bits, number, opposite, without_sign, is_zero, repeated, operated}
use Rattle.calculus.specs.Term.{number_value, of_number, opposite_value, value_without_sign, operated_values}
use Rattle.calculus.specs.IsDatabase.{value_fits}
use Rattle.calculus.specs.Kinds.{is_number_kind}
use Rattle.calculus.specs.Text.{is_text}
use Rattle.calculus.specs.Value.{fits, is_within, number_fits}
use Rattle.quel_meaning.proofs.Each.{Each}
use Rattle.quel_network.specs.Suiting.{Suits, SuitsKind, GivesBy}

-- ---- what has 64 bits

-- the order of two numbers says that the first is not greater
abbrev not_greater : ℕ → ℕ → Bool
not_greater m n = is_le (cond (nat_lt m n) Less (cond (nat_lt n m) Greater Equal))

in_order : (less more : Bool) → more ≡ false → is_le (cond less Less (cond more Greater Equal)) ≡ true
in_order true more h = refl
in_order false false h = refl
in_order false true h = absurd (cc h)

ordered : (m n : ℕ) → m ≤ n → IsTrue (not_greater m n)
ordered m n h = in_order (nat_lt m n) (nat_lt n m) (le-ltb n m h)

at_most : (m n : ℕ) → IsTrue (not_greater m n) → m ≤ n
at_most m n h = go (nat_lt m n) refl (nat_lt n m) refl h
  where
    go : (a : Bool) → nat_lt m n ≡ a → (b : Bool) → nat_lt n m ≡ b → is_le (cond a Less (cond b Greater Equal)) ≡ true → m ≤ n
    go true e b f h = let less = ltb-true m n e in omega (arith, less)
    go false e true f h = absurd (cc h)
    go false e false f h = ltb-false n m f

pub small_bits : (n : ℕ) → n ≤ 9223372036854775807 → IsTrue (has_64_bits (pos n))
small_bits n h = ordered n 9223372036854775807 h

negative_bits : (n : ℕ) → n ≤ 9223372036854775807 → IsTrue (has_64_bits (negsuc n))
negative_bits n h = and_from (not_greater n 9223372036854775807) true (ordered n 9223372036854775807 h) refl

not_above : (low high n : ℕ) → IsTrue (is_within (negsuc low) (pos n) (pos high)) → n ≤ high
not_above low high n h = at_most n high h

not_below : (low high n : ℕ) → IsTrue (is_within (negsuc low) (negsuc n) (pos high)) → n ≤ low
not_below low high n h = at_most n low (and_parts (not_greater n low) true h).0

-- a number of 64 bits is one that eight bytes can say
pub bits_fit : (z : ℤ) → IsTrue (has_64_bits z) → FitsSigned w64 z
bits_fit (pos n) h = let few = not_above 9223372036854775807 9223372036854775807 n h in record { sfits = omega (arith, few) }
bits_fit (negsuc n) h = let few = not_below 9223372036854775807 9223372036854775807 n h in record { sfits = omega (arith, few) }

fits_bits : (z : ℤ) → FitsSigned w64 z → IsTrue (has_64_bits z)
fits_bits (pos n) f = small_bits n (omega (arith, f.sfits))
fits_bits (negsuc n) f = negative_bits n (omega (arith, f.sfits))

-- so is one between bounds that have them
pub within_bits : (low high : ℕ) → low ≤ 9223372036854775807 → high ≤ 9223372036854775807 → (z : ℤ) → IsTrue (is_within (negsuc low) z (pos high)) → IsTrue (has_64_bits z)
within_bits low high least most (pos n) h = let few = not_above low high n h in small_bits n (omega (arith, few, most))
within_bits low high least most (negsuc n) h = let few = not_below low high n h in negative_bits n (omega (arith, few, least))

-- a small number is one of 16 bits
pub short_number : (n : ℕ) → n ≤ 32767 → IsTrue (number_fits (pos n) I2)
short_number n h = ordered n 32767 h

-- a value of a kind is a number of 64 bits where the kind is one of numbers, else a text
pub kind_suits : (k : Kind) (v : Value) → SuitsKind k v → Suits (is_number_kind k) v
kind_suits Wide v h = h
kind_suits (Of I1) (Int z) h = within_bits 127 127 (omega arith) (omega arith) z h
kind_suits (Of I2) (Int z) h = within_bits 32767 32767 (omega arith) (omega arith) z h
kind_suits (Of I4) (Int z) h = within_bits 2147483647 2147483647 (omega arith) (omega arith) z h
kind_suits (Of (C width)) (Int z) h = absurd (cc h)
kind_suits (Of I1) (Text bytes) h = absurd (cc h)
kind_suits (Of I2) (Text bytes) h = absurd (cc h)
kind_suits (Of I4) (Text bytes) h = absurd (cc h)
kind_suits (Of (C width)) (Text bytes) h = (and_parts (fits (Text bytes) (C width)) (is_text bytes) h).1

-- ---- operations

pub number_gives : (z : ℤ) → GivesBy true (number_value (number z))
number_gives z = go (has_64_bits z) refl
  where
    go : (b : Bool) → has_64_bits z ≡ b → GivesBy true (number_value (cond b (Some z) None))
    go true e = e
    go false e = tt

unless_gives : (b : Bool) (z : ℤ) → GivesBy true (number_value (cond b None (number z)))
unless_gives true z = tt
unless_gives false z = number_gives z

operated_gives : (op : ArithOp) (x y : ℤ) → GivesBy true (number_value (operated op x y))
operated_gives Add x y = number_gives (x +ℤ y)
operated_gives Sub x y = number_gives (x -ℤ y)
operated_gives Mul x y = number_gives (x *ℤ y)
operated_gives Div x y = unless_gives (is_zero y) (int_div x y)
operated_gives Pow x (pos n) = number_gives (repeated x n)
operated_gives Pow x (negsuc n) = tt
operated_gives Mod x y = unless_gives (is_zero y) (int_rem x y)

of_number_gives : (f : ℤ → Option Value) (v : Option Value) → ((z : ℤ) → GivesBy true (f z)) → GivesBy true (of_number f v)
of_number_gives f None h = tt
of_number_gives f (Some (Int z)) h = h z
of_number_gives f (Some (Text bytes)) h = tt

pub opposite_gives : (v : Option Value) → GivesBy true (opposite_value v)
unfolding opposite_value
opposite_gives v = of_number_gives (λ x. number_value (opposite x)) v (λ x. number_gives (neg_ℤ x))

pub without_sign_gives : (v : Option Value) → GivesBy true (value_without_sign v)
unfolding value_without_sign
without_sign_gives v = of_number_gives (λ x. number_value (without_sign x)) v (λ x. number_gives (pos (nat_abs x)))

pub operated_values_give : (op : ArithOp) (v w : Option Value) → GivesBy true (operated_values op v w)
unfolding operated_values
operated_values_give op v w =
    of_number_gives (λ x. of_number (λ y. number_value (operated op x y)) w) v
    (λ x. of_number_gives (λ y. number_value (operated op x y)) w (λ y. operated_gives op x y))

-- ---- averages

-- the number is within what so many numbers of 64 bits can sum up to
record IsSum (n : ℕ) (sum : ℤ) : Type 0 where
  least : pos 0 ≤ℤ (sum +ℤ pos (9223372036854775808 * n))
  greatest : sum ≤ℤ pos (9223372036854775807 * n)

one_more : (n : ℕ) (x sum new : ℤ) → IsSum n sum → FitsSigned w64 x → new ≡ x +ℤ sum → IsSum (suc n) new
one_more n x sum new h f e = record { least = omega (arith, ints, h.least, f.sfits, e); greatest = omega (arith, ints, h.greatest, f.sfits, e) }

total_is : (vs : List Value) → Each (Suits true) vs → IsSum (length vs) (total vs)
total_is [] h = record { least = omega arith; greatest = omega arith }
total_is (Int z ∷ vs) h = one_more (length vs) z (total vs) (z +ℤ total vs) (total_is vs h.1) (bits_fit z h.0) refl
total_is (Text bytes ∷ vs) h = absurd h.0

negated_mag : (n m : ℕ) → n ≤ suc m → mag (neg_ℤ (pos n)) ≤ m
negated_mag zero m h = omega arith
negated_mag (suc n) m h = omega (arith, h)

shared_fits : (n : ℕ) (sum : ℤ) → IsSum (suc n) sum → FitsSigned w64 (int_div sum (pos (suc n)))
shared_fits n (pos a) h =
    let all : a ≤ suc n * 9223372036854775807 = omega (arith, ints, h.greatest) in
    let one : a / suc n ≤ 9223372036854775807 = div-le_of_le-mul (suc n) all in
    record { sfits = omega (arith, one) }
shared_fits n (negsuc a) h =
    let all : suc a ≤ suc n * 9223372036854775808 = omega (arith, ints, h.least) in
    let one : suc a / suc n ≤ 9223372036854775808 = div-le_of_le-mul (suc n) all in
    let small : mag (neg_ℤ (pos (suc a / suc n))) ≤ 9223372036854775807 = negated_mag (suc a / suc n) 9223372036854775807 (omega (arith, one)) in
    record { sfits = omega (arith, small) }

-- the average of numbers of 64 bits is one
pub average_bits : (vs : List Value) → Each (Suits true) vs → IsTrue (has_64_bits (average vs))
average_bits [] h = refl
average_bits (v ∷ vs) h = fits_bits (average (v ∷ vs)) (shared_fits (length vs) (total (v ∷ vs)) (total_is (v ∷ vs) h))
