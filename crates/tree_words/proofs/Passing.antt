-- Bytes that are passed over one by one.
use Rattle.std.proofs.Common.{◌≡◌, ℕ, suc, ◌+◌, ◌-◌, ◌<◌, ◌≤◌, Bool, List, [], ◌∷◌, ◌++◌, length, take, Ok, Err, refl, sym, ap, ◌∙◌, append_assoc, arith, inl, inr}
use Rattle.std.proofs.Common.{length-append}
use Rattle.std.proofs.lemmas.List.{length-take-le}
use Rattle.tree_words.specs.declared.fault.Fault.{Fault}
use Rattle.tree_words.specs.declared.fault.Fault.TheVariants as faults
use Rattle.tree_words.specs.Slices.{Fails}
use Rattle.tree_words.specs.Codec.{Reading, ◌>>=◌}
use Rattle.tree_words.specs.Words.{letter, letter_read, spelt, items_read, with_front}
use Rattle.tree_words.specs.Steps.{ok_value, ok_err}
use Rattle.std.proofs.lemmas.Bool.{cases_Bool}
use Rattle.tree_words.proofs.Fronts.{append_none, take_one_more}

-- so many bytes in front are passed over, and these are left
pub record Passed (test : ℕ → ℕ → Bool) (n m : ℕ) (all now : List ℕ) : Type 0 where
  pub within : m ≤ length all
  pub split : all ≡ take m all ++ now
  pub reading : (spelt test n).read all ≡ with_front (take m all) ((spelt test (n - m)).read now)

letter_taken : (test : ℕ → Bool) (bytes : List ℕ) (b : ℕ) (rest : List ℕ) → letter_read test bytes ≡ Ok (b, rest) → bytes ≡ b ∷ rest
letter_taken test [] b rest e = absurd cc
letter_taken test (c ∷ bytes) b rest e =
    elim (cases_Bool (test c)) [
      | inl t ↦ (let v = ok_value (c, bytes) (b, rest) (rw t at e) in ap (λ x. x ∷ bytes) v.0 ∙ ap (λ xs. b ∷ xs) v.1)
      | inr f ↦ absurd (ok_err (b, rest) (suc (length bytes)) (sym (rw f at e)))
    ]

abbrev paired : ℕ → List ℕ × List ℕ → Reading (ℕ × List ℕ)
paired b y = Ok ((b, y.0), y.1)

abbrev joined : (ℕ × List ℕ) × List ℕ → Reading (List ℕ)
joined x = Ok (x.0.0 ∷ x.0.1, x.1)

abbrev behind : List ℕ → List ℕ × List ℕ → Reading (List ℕ)
behind front xs = Ok (front ++ xs.0, xs.1)

one_in_front : (front : List ℕ) (b : ℕ) (r : Reading (List ℕ)) → (((r >>= paired b) >>= joined) >>= behind front) ≡ (r >>= behind (front ++ (b ∷ [])))
one_in_front front b (Ok xs) = let e : front ++ (b ∷ xs.0) ≡ (front ++ (b ∷ [])) ++ xs.0 = sym (append_assoc front (b ∷ []) xs.0) in ap (λ ys. Ok (ys, xs.1)) e
one_in_front front b (Err left) = refl

spelt_one : (test : ℕ → ℕ → Bool) (k : ℕ) (front bytes : List ℕ) (b : ℕ) (rest : List ℕ) → (letter (test k)).read bytes ≡ Ok (b, rest) → with_front front ((spelt test (suc k)).read bytes) ≡ with_front (front ++ (b ∷ [])) ((spelt test k).read rest)
unfolding spelt
spelt_one test k front bytes b rest e = rw e (one_in_front front b ((spelt test k).read rest))

spelt_wrong : (test : ℕ → ℕ → Bool) (k : ℕ) (front bytes : List ℕ) (left : ℕ) → (letter (test k)).read bytes ≡ Err left → with_front front ((spelt test (suc k)).read bytes) ≡ Err left
unfolding spelt
spelt_wrong test k front bytes left e = rw e refl

spelt_none : (test : ℕ → ℕ → Bool) (front bytes : List ℕ) → with_front front ((spelt test 0).read bytes) ≡ Ok (front, bytes)
unfolding spelt items_read
spelt_none test front bytes = ap (λ xs. Ok (xs, bytes)) (append_none front)

pub passed_none : (test : ℕ → ℕ → Bool) (n : ℕ) (all : List ℕ) → Passed test n 0 all all
passed_none test n all = record { within = omega arith; split = none all; reading = none_left test n all }
  where
    none : (xs : List ℕ) → xs ≡ take 0 xs ++ xs
    none [] = refl
    none (x ∷ xs) = refl

    none_read : (xs : List ℕ) (r : Reading (List ℕ)) → r ≡ with_front (take 0 xs) r
    none_read [] (Ok ys) = refl
    none_read (x ∷ xs) (Ok ys) = refl
    none_read [] (Err left) = refl
    none_read (x ∷ xs) (Err left) = refl

    none_left : (test : ℕ → ℕ → Bool) (n : ℕ) (all : List ℕ) → (spelt test n).read all ≡ with_front (take 0 all) ((spelt test (n - 0)).read all)
    none_left test n all = let e : n - 0 ≡ n = omega arith in rw e (none_read all ((spelt test n).read all))

fewer : (n m : ℕ) → m < n → n - m ≡ suc (n - 1 - m)
fewer n m h = omega arith

passed_failed : (test : ℕ → ℕ → Bool) (n m : ℕ) (all now : List ℕ) (left : ℕ) → m < n → Passed test n m all now → (letter (test (n - 1 - m))).read now ≡ Err left → (spelt test n).read all ≡ Err left
passed_failed test n m all now left h p e = p.reading ∙ (rw (fewer n m h) (spelt_wrong test (n - 1 - m) (take m all) now left e))

pub passed_fails : (test : ℕ → ℕ → Bool) (n m : ℕ) (all now : List ℕ) (e : Fault) → m < n → Passed test n m all now → Fails ((letter (test (n - 1 - m))).read now) e → Fails ((spelt test n).read all) e
passed_fails test n m all now (faults.Wrong left) h p f = passed_failed test n m all now left h p f
passed_fails test n m all now faults.OutOfMemory h p f = absurd f

pub passed_on : (test : ℕ → ℕ → Bool) (n m : ℕ) (all now : List ℕ) (b : ℕ) (rest : List ℕ) → m < n → Passed test n m all now → (letter (test (n - 1 - m))).read now ≡ Ok (b, rest) → Passed test n (m + 1) all rest
passed_on test n m all now b rest h p e =
    let is : now ≡ b ∷ rest = letter_taken (test (n - 1 - m)) now b rest e in
    let whole : all ≡ take m all ++ (b ∷ rest) = p.split ∙ ap (λ xs. take m all ++ xs) is in
    let size : length (take m all) ≡ m = length-take-le m all p.within in
    let more : take (m + 1) all ≡ take m all ++ (b ∷ []) = front_more m all (take m all) b rest size whole in
    let total : length all ≡ length (take m all) + length (b ∷ rest) = ap length whole ∙ length-append (take m all) (b ∷ rest) in
    let step : n - 1 - m ≡ n - (m + 1) = omega arith in
    record {
      within = omega arith;
      split = whole ∙ sym (append_assoc (take m all) (b ∷ []) rest) ∙ ap (λ xs. xs ++ rest) (sym more);
      reading = p.reading ∙ (rw (fewer n m h, more, ← step) (spelt_one test (n - 1 - m) (take m all) now b rest e));
    }
  where
    front_more : (m : ℕ) (all front : List ℕ) (b : ℕ) (rest : List ℕ) → length front ≡ m → all ≡ front ++ (b ∷ rest) → take (m + 1) all ≡ front ++ (b ∷ [])
    front_more m all front b rest size whole = (let e : m + 1 ≡ suc (length front) = omega arith in rw (e, whole) (take_one_more front b rest))

pub passed_all : (test : ℕ → ℕ → Bool) (n m : ℕ) (all now : List ℕ) → n ≤ m → m ≤ n → Passed test n m all now → (n ≤ length all) × ((spelt test n).read all ≡ Ok (take n all, now))
passed_all test n m all now h k p =
    let is : m ≡ n = omega arith in let none : n - m ≡ 0 = omega arith in
    let size : n ≤ length all = (let w : m ≤ length all = p.within in omega arith) in
    (size, p.reading ∙ (rw none (spelt_none test (take m all) now)) ∙ ap (λ k. Ok (take k all, now)) is)
