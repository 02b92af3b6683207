-- Numbers of two, four and eight bytes: the laws.
use Rattle.std.specs.Prelude.{◌≡◌, ℕ, ◌+◌, ◌*◌, ◌/◌, ◌%◌, ◌<◌, ◌^◌, ℤ, List}
use Rattle.std.proofs.Common.{refl, arith, Fits, ap, ◌∙◌}
use Rattle.std.proofs.lemmas.Int.{of_z-to_z, to_z-of_z}
use Rattle.std.proofs.Math.Facts.{sfits_to_z, Fits-of_z}
use Rattle.std.specs.Int.{w64, cast_signed, cast_unsigned}
use Rattle.std.specs.Int.RustNames.{FitsSigned}
use Rattle.tree_words.specs.Codec.{Writes}
use Rattle.tree_words.specs.Words.{byte, both, halves, number16, number32, number64}
use Rattle.tree_words.specs.Exact.{Exact}
use Rattle.tree_words.specs.FormLaws.{mapped_exact, remade_exact}
use Rattle.tree_words.specs.LetterLaws.{byte_exact}
use Rattle.tree_words.specs.PairLaws.{both_exact}

split_256 : (p : ℕ × ℕ) → p.1 < 256 → let q : ℕ × ℕ = ((p.0 * 256 + p.1) / 256, (p.0 * 256 + p.1) % 256) in q ≡ p
split_256 p h = let a : (p.0 * 256 + p.1) / 256 ≡ p.0 = omega arith in let b : (p.0 * 256 + p.1) % 256 ≡ p.1 = omega arith in rw (a, b) refl

split_65536 : (p : ℕ × ℕ) → p.1 < 65536 → let q : ℕ × ℕ = ((p.0 * 65536 + p.1) / 65536, (p.0 * 65536 + p.1) % 65536) in q ≡ p
split_65536 p h = let a : (p.0 * 65536 + p.1) / 65536 ≡ p.0 = omega arith in let b : (p.0 * 65536 + p.1) % 65536 ≡ p.1 = omega arith in rw (a, b) refl

pub number16_exact : Exact number16
unfolding number16
number16_exact = mapped_exact (λ p. p.0 * 256 + p.1) (λ n. (n / 256, n % 256)) (both byte byte) (λ p f. split_256 p f.1) (λ n f. omega arith) (both_exact byte byte byte_exact byte_exact)

number16_below : (n : ℕ) → number16.Fits n → n < 65536
unfolding number16
number16_below n f = let a : n / 256 < 256 = f.0 in omega arith

pub number32_exact : Exact number32
unfolding number32
number32_exact = mapped_exact (λ p. p.0 * 65536 + p.1) (λ n. (n / 65536, n % 65536)) (both number16 number16) (λ p f. split_65536 p (number16_below p.1 f.1)) (λ n f. omega arith) (both_exact number16 number16 number16_exact number16_exact)

split_4294967296 : (p : ℕ × ℕ) → p.1 < 4294967296 → let q : ℕ × ℕ = ((p.0 * 4294967296 + p.1) / 4294967296, (p.0 * 4294967296 + p.1) % 4294967296) in q ≡ p
split_4294967296 p h = let a : (p.0 * 4294967296 + p.1) / 4294967296 ≡ p.0 = omega arith in let b : (p.0 * 4294967296 + p.1) % 4294967296 ≡ p.1 = omega arith in rw (a, b) refl

number32_below : (n : ℕ) → number32.Fits n → n < 4294967296
unfolding number32
number32_below n f = let a : n / 65536 < 65536 = number16_below (n / 65536) f.0 in omega arith

bits64_exact : Exact (halves 4294967296 number32)
bits64_exact = mapped_exact (λ p. p.0 * 4294967296 + p.1) (λ n. (n / 4294967296, n % 4294967296)) (both number32 number32) (λ p f. split_4294967296 p (number32_below p.1 f.1)) (λ n f. omega arith) (both_exact number32 number32 number32_exact number32_exact)

bits64_below : (n : ℕ) → (halves 4294967296 number32).Fits n → n < 2 ^ 64
bits64_below n f = let a : n / 4294967296 < 4294967296 = number32_below (n / 4294967296) f.0 in omega arith

below_number16 : (n : ℕ) → n < 65536 → number16.Fits n
unfolding number16
below_number16 n h = (omega arith, omega arith)

below_number32 : (n : ℕ) → n < 4294967296 → number32.Fits n
unfolding number32
below_number32 n h = (below_number16 (n / 65536) (omega arith), below_number16 (n % 65536) (omega arith))

below_bits64 : (n : ℕ) → n < 2 ^ 64 → (halves 4294967296 number32).Fits n
below_bits64 n h = (below_number32 (n / 4294967296) (omega arith), below_number32 (n % 4294967296) (omega arith))

signed_of_bits : (n : ℕ) → (halves 4294967296 number32).Fits n → FitsSigned w64 (cast_signed w64 n) × (cast_unsigned w64 (cast_signed w64 n) ≡ n)
signed_of_bits n f = let h : n < 2 ^ 64 = bits64_below n f in (sfits_to_z (record { fits = h }), of_z-to_z w64 n h)

pub bits_of_signed : (z : ℤ) → FitsSigned w64 z → (halves 4294967296 number32).Fits (cast_unsigned w64 z) × (cast_signed w64 (cast_unsigned w64 z) ≡ z)
bits_of_signed z f = let h : Fits w64 (cast_unsigned w64 z) = Fits-of_z f in (below_bits64 (cast_unsigned w64 z) h.fits, to_z-of_z w64 z f)

pub number64_exact : Exact number64
unfolding number64
number64_exact = remade_exact (FitsSigned w64) (cast_signed w64) (cast_unsigned w64) (halves 4294967296 number32) signed_of_bits bits_of_signed bits64_exact

-- what was written in halves is the number
pub wrote_number64 : (z : ℤ) (bits : ℕ) (old new : List ℕ) → bits ≡ cast_unsigned w64 (cast_signed w64 (cast_unsigned w64 z)) → Writes (λ _. both number32 number32) (bits / 4294967296, bits % 4294967296) old new → Writes (λ _. number64) z old new
unfolding number64
wrote_number64 z bits old new e w n f =
    let s = bits_of_signed z f in
    let is : bits ≡ cast_unsigned w64 z = e ∙ ap (λ x. cast_unsigned w64 x) s.1 in
    let h : (halves 4294967296 number32).Fits bits = rw is s.0 in
    rw (← is) (w n h)
