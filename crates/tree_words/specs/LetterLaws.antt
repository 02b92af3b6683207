-- One byte, and no byte: the laws.
use Rattle.std.specs.Prelude.{◌≡◌, ℕ, suc, ◌<◌, Bool, true, IsTrue, ◌&&◌, nat_lt, List, [], ◌∷◌, length, Ok, Err}
use Rattle.std.proofs.Common.{inl, inr, refl, sym, ap, subst, ◌∙◌, arith}
use Rattle.std.proofs.lemmas.Bool.{ltb-true, lt-ltb, and_parts, and_from, cases_Bool}
use Rattle.tree_words.specs.Words.{letter, letter_of, letter_read, byte, byte_if, nothing}
use Rattle.tree_words.specs.Exact.{Refused, Exact}
use Rattle.tree_words.specs.Steps.{ok_value, ok_err}

letter_only : (test : ℕ → Bool) (Fits : ℕ → Type 0) → ((b : ℕ) → test b ≡ true → Fits b) → (bytes : List ℕ) (a : ℕ) (rest : List ℕ) → letter_read test bytes ≡ Ok (a, rest) → Fits a × (bytes ≡ a ∷ rest)
letter_only test Fits from [] a rest e = absurd cc
letter_only test Fits from (b ∷ bs) a rest e =
    elim (cases_Bool (test b)) [
      | inl t ↦ (let v = ok_value (b, bs) (a, rest) (rw t at e) in (subst Fits v.0 (from b t), ap (λ x. x ∷ bs) v.0 ∙ ap (λ xs. a ∷ xs) v.1))
      | inr f ↦ (let h = rw f at e in absurd (ok_err (a, rest) (suc (length bs)) (sym h)))
    ]

letter_first : (test : ℕ → Bool) (Fits : ℕ → Type 0) (x : ℕ) → Fits x → (bytes : List ℕ) (left : ℕ) → letter_read test bytes ≡ Err left → Refused (letter_of test Fits) bytes left
letter_first test Fits x ok [] left e = record {
  front = [];
  behind = [];
  split = refl;
  place = cc;
  value = x;
  fits = ok;
  more = x ∷ [];
  goes_on = refl;
  wrong = λ b after other at. absurd cc;
}
letter_first test Fits x ok (b ∷ bs) left e =
    elim (cases_Bool (test b)) [
      | inl t ↦ absurd (ok_err (b, bs) left (rw t at e))
      | inr f ↦ (let h = rw f at e in record {
        front = [];
        behind = b ∷ bs;
        split = refl;
        place = cc;
        value = x;
        fits = ok;
        more = x ∷ [];
        goes_on = refl;
        wrong = λ c after other at. (let same : b ≡ c = cc in rw (← same) (rw f refl));
      })
    ]

pub letter_of_exact : (test : ℕ → Bool) (Fits : ℕ → Type 0) → ((b : ℕ) → test b ≡ true → Fits b) → ((b : ℕ) → Fits b → test b ≡ true) → (x : ℕ) → Fits x → Exact (letter_of test Fits)
letter_of_exact test Fits from to x ok = record {
  example = x;
  lawful = ok;
  again = λ a rest f. rw (to a f) refl;
  only = letter_only test Fits from;
  first = letter_first test Fits x ok;
}

pub letter_exact : (test : ℕ → Bool) (x : ℕ) → test x ≡ true → Exact (letter test)
letter_exact test x e = letter_of_exact test (λ b. IsTrue (test b)) (λ b t. t) (λ b f. f) x e

pub nothing_exact : Exact nothing
nothing_exact = record {
  example = tt;
  lawful = tt;
  again = λ a rest f. refl;
  only = λ bytes a rest e. (tt, (ok_value (tt, bytes) (a, rest) e).1);
  first = λ bytes left e. absurd (ok_err (tt, bytes) left e);
}

pub byte_exact : Exact byte
byte_exact = letter_of_exact (λ b. nat_lt b 256) (λ b. b < 256) (λ b e. ltb-true b 256 e) (λ b f. lt-ltb b 256 f) 0 (omega arith)

pub byte_if_exact : (test : ℕ → Bool) (x : ℕ) → x < 256 → test x ≡ true → Exact (byte_if test)
byte_if_exact test x h e = letter_of_exact (λ b. nat_lt b 256 && test b) (λ b. (b < 256) × IsTrue (test b))
    (λ b t. (let p = and_parts (nat_lt b 256) (test b) t in (ltb-true b 256 p.0, p.1)))
    (λ b f. and_from (nat_lt b 256) (test b) (lt-ltb b 256 f.0) f.1) x (h, e)
