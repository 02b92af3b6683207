-- A length byte and so many bytes, of which each passes a test: the laws.
use Rattle.std.specs.Prelude.{◌≡◌, ℕ, zero, suc, ◌<◌, ◌%◌, Bool, true, IsTrue, List, [], ◌∷◌, ◌++◌, length}
use Rattle.std.specs.List.{list_all}
use Rattle.std.proofs.Common.{refl, ap, append_assoc, arith}
use Rattle.std.proofs.lemmas.Bool.{and_parts}
use Rattle.tree_words.specs.Codec.{Writes}
use Rattle.tree_words.specs.Words.{byte, letter, both, byte_if, spelt, short, FirstFits, head_and_rest}
use Rattle.tree_words.specs.Exact.{Exact}
use Rattle.tree_words.specs.LetterLaws.{letter_exact, byte_exact, byte_if_exact}
use Rattle.tree_words.specs.PairLaws.{both_exact}
use Rattle.tree_words.specs.FormLaws.{remade_exact}
use Rattle.tree_words.specs.SizeLaws.{sized_exact}
use Rattle.tree_words.specs.ListLaws.{items_exact, items_length}

-- at each place of so many bytes some byte may stand
abbrev pub SomeStand : (ℕ → ℕ → Bool) → ℕ → Type 0
SomeStand test n = (k : ℕ) → k < n → (b : ℕ) × (test k b ≡ true)

back_together : (test : ℕ → Bool) (Fits : List ℕ → Type 0) (bs : List ℕ) → FirstFits test Fits bs → (IsTrue (test (head_and_rest bs).0) × Fits (head_and_rest bs).1) × ((head_and_rest bs).0 ∷ (head_and_rest bs).1 ≡ bs)
back_together test Fits [] f = absurd f
back_together test Fits (b ∷ bs) f = (f, refl)

pub spelt_exact : (test : ℕ → ℕ → Bool) (n : ℕ) → SomeStand test n → Exact (spelt test n)
unfolding spelt
spelt_exact test zero some = items_exact byte byte_exact 0
spelt_exact test (suc n) some = let here = some n (omega arith) in
    remade_exact (FirstFits (test n) (spelt test n).Fits) (λ p. p.0 ∷ p.1) head_and_rest (both (letter (test n)) (spelt test n))
    (λ p f. (f, refl)) (back_together (test n) (spelt test n).Fits)
    (both_exact (letter (test n)) (spelt test n) (letter_exact (test n) here.0 here.1) (spelt_exact test n (λ k h. some k (omega arith))))

pub spelt_length : (test : ℕ → ℕ → Bool) (n : ℕ) (bs : List ℕ) → (spelt test n).Fits bs → length bs ≡ n
unfolding spelt
spelt_length test zero bs f = items_length byte 0 bs f
spelt_length test (suc n) [] f = absurd f
spelt_length test (suc n) (b ∷ bs) f = ap (λ k. suc k) (spelt_length test n bs f.1)

-- the bytes are written as they are
pub spelt_plain : (test : ℕ → ℕ → Bool) (n : ℕ) (bs : List ℕ) → (spelt test n).Fits bs → (spelt test n).write bs ≡ bs
unfolding spelt
spelt_plain test zero [] f = refl
spelt_plain test zero (b ∷ bs) f = absurd f
spelt_plain test (suc n) [] f = absurd f
spelt_plain test (suc n) (b ∷ bs) f = ap (λ xs. b ∷ xs) (spelt_plain test n bs f.1)

-- some length passes its test, and for each that does some byte may stand at each place
pub short_exact : (length_is : ℕ → Bool) (stands : ℕ → ℕ → ℕ → Bool) (size : ℕ) → size < 256 → length_is size ≡ true → ((n : ℕ) → length_is n ≡ true → SomeStand (stands n) n) → Exact (short length_is stands)
unfolding short
short_exact length_is stands size h e some = sized_exact (byte_if length_is) (λ n. spelt (stands n) n) length
    (λ n bs f. spelt_length (stands n) n bs f) (byte_if_exact length_is size h e) (λ n f. spelt_exact (stands n) n (some n f.1))

pub wrote_short : (length_is : ℕ → Bool) (stands : ℕ → ℕ → ℕ → Bool) (bs old new : List ℕ) → new ≡ (old ++ (length bs % 256 ∷ [])) ++ bs → Writes (λ _. short length_is stands) bs old new
unfolding short
wrote_short length_is stands bs old new e n f =
    let small : length bs % 256 ≡ length bs = (let h : length bs < 256 = f.0.0 in omega arith) in
    let plain : (spelt (stands (length bs)) (length bs)).write bs ≡ bs = spelt_plain (stands (length bs)) (length bs) bs f.1 in
    rw e (rw (small, plain) (append_assoc old (length bs ∷ []) bs))

-- what passes a test at each place passes one that is weaker at these places
pub spelt_weaker : (test other : ℕ → ℕ → Bool) (n : ℕ) → ((k b : ℕ) → k < n → test k b ≡ true → other k b ≡ true) → (bs : List ℕ) → (spelt test n).Fits bs → (spelt other n).Fits bs
unfolding spelt
spelt_weaker test other zero to bs f = f
spelt_weaker test other (suc n) to [] f = absurd f
spelt_weaker test other (suc n) to (b ∷ bs) f = (to n b (omega arith) f.0, spelt_weaker test other n (λ k c h. to k c (omega arith)) bs f.1)

-- where the test is the same at each place, all bytes pass it
pub spelt_all : (test : ℕ → Bool) (n : ℕ) (bs : List ℕ) → (spelt (λ _. test) n).Fits bs → list_all test bs ≡ true
unfolding spelt
spelt_all test zero [] f = refl
spelt_all test zero (b ∷ bs) f = absurd f
spelt_all test (suc n) [] f = absurd f
spelt_all test (suc n) (b ∷ bs) f = rw (f.0, spelt_all test n bs f.1) refl

pub all_spelt : (test : ℕ → Bool) (bs : List ℕ) → list_all test bs ≡ true → (spelt (λ _. test) (length bs)).Fits bs
unfolding spelt
all_spelt test [] f = tt
all_spelt test (b ∷ bs) f = let p = and_parts (test b) (list_all test bs) f in (p.0, all_spelt test bs p.1)
