-- Where all output was taken.
use Rattle.std.proofs.Common.{◌≡◌, refl, ap, ◌∙◌, ℕ, suc, ◌≤◌, max, Bool, true, false, List, [], ◌∷◌, ◌++◌, length, length-append, arith}
use Rattle.std.proofs.lemmas.Bool.{le-leb}
use Rattle.std.specs.Prelude.{◌+◌, ◌&&◌, if◌then◌else◌, not, map, nat_le}
use Rattle.std.specs.List.{list_all}
use Rattle.calculus.specs.Lists.{is_any}
use Rattle.quel_meaning.specs.Happening.{Event, Wrote, Ran}
use Rattle.quel_meaning.specs.Session.{Session, printed, output, Ending, endings_from, replies, greatest_number, ended}

-- the reply has a byte
abbrev says : Ending → Bool
says e = is_any e.reply

taken_true : (b : Bool) (place taken : ℕ) → place ≤ taken → (b && nat_le place taken) ≡ b
taken_true true place taken h = le-leb place taken h
taken_true false place taken h = refl

-- where more bytes are taken than are printed, each reply counts that has a byte
all_taken : (n before taken : ℕ) (es : List Event) → before + length (printed es) ≤ taken
    → greatest_number (λ e. is_any e.reply && nat_le e.place taken) n (endings_from before es) ≡ greatest_number says n (endings_from before es)
unfolding printed
all_taken n before taken [] h = refl
all_taken n before taken (Wrote bytes ∷ es) h = all_taken n (before + length bytes) taken es (omega (arith, h, length-append bytes (printed es)))
all_taken n before taken (Ran reply db ∷ es) h =
    let more = length-append reply (printed es) in
    rw (
      taken_true (is_any reply) (before + length reply) taken (omega (arith, h, more)),
      all_taken (suc n) (before + length reply) taken es (omega (arith, h, more)),
    ) refl

silent : (n : ℕ) (es : List Ending) → list_all (λ r. not (is_any r)) (map (λ e. e.reply) es) ≡ true → greatest_number says n es ≡ 0
silent n [] h = refl
silent n (e ∷ es) h =
    let parts = both (not (is_any e.reply)) (list_all (λ r. not (is_any r)) (map (λ e. e.reply) es)) h in
    rw (unequal (is_any e.reply) parts.0, silent (suc n) es parts.1) refl
  where
    both : (a b : Bool) → (a && b) ≡ true → (a ≡ true) × (b ≡ true)
    both true b i = (refl, i)
    both false b i = absurd cc

    unequal : (b : Bool) → not b ≡ true → b ≡ false
    unequal true i = absurd cc
    unequal false i = refl

max_first : (b : Bool) (n m : ℕ) → n ≤ m → max (if b then n else 0) m ≡ m
max_first true n m h = omega (arith, h)
max_first false n m h = omega arith

-- the last reply that has a byte
numbered : (n : ℕ) (es : List Ending) (front : List (List ℕ)) (reply : List ℕ) (rest : List (List ℕ))
    → map (λ e. e.reply) es ≡ front ++ reply ∷ rest → is_any reply ≡ true → list_all (λ r. not (is_any r)) rest ≡ true
    → greatest_number says n es ≡ n + length front
numbered n [] [] reply rest h some none = cc h
numbered n [] (f ∷ front) reply rest h some none = cc h
numbered n (e ∷ es) [] reply rest h some none =
    let first : e.reply ≡ reply = cc h in
    let later : map (λ e. e.reply) es ≡ rest = cc h in
    rw (first, some, silent (suc n) es (ap (list_all (λ r. not (is_any r))) later ∙ none)) (omega arith)
numbered n (e ∷ es) (f ∷ front) reply rest h some none =
    let later : map (λ e. e.reply) es ≡ front ++ reply ∷ rest = cc h in
    let found = numbered (suc n) es front reply rest later some none in
    rw (found, max_first (is_any e.reply) n (suc n + length front) (omega arith)) (omega arith)

-- where all is taken, the number is that of the last reply that has a byte
pub last_number : (session : Session) (front : List (List ℕ)) (reply : List ℕ) (rest : List (List ℕ))
    → replies session ≡ front ++ reply ∷ rest → is_any reply ≡ true → list_all (λ r. not (is_any r)) rest ≡ true
    → ended session (length (output session)) ≡ suc (length front)
unfolding ended
last_number session front reply rest h some none =
    all_taken 1 0 (length (output session)) session.events (omega arith)
    ∙ numbered 1 (endings_from 0 session.events) front reply rest h some none ∙ omega arith

-- and 0 where no reply has a byte
pub no_number : (session : Session) → list_all (λ r. not (is_any r)) (replies session) ≡ true → ended session (length (output session)) ≡ 0
unfolding ended
no_number session none = all_taken 1 0 (length (output session)) session.events (omega arith) ∙ silent 1 (endings_from 0 session.events) none
