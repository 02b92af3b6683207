-- Refusals that have a spelling: by a number of the list, and with a line and a row of four bytes.
use Rattle.std.specs.Prelude.{◌≡◌, ◌<◌, ℕ, nat_eq, nat_lt, Bool, true, false, ◌||◌, List, [], ◌∷◌, map, Option, Some, None, Result, Ok, Err, option_map, option_and_then}
use Rattle.std.specs.List.{list_all}
use Rattle.std.proofs.Common.{refl, ap, subst, ◌∙◌, arith}
use Rattle.std.proofs.lemmas.Bool.{eqb-true, eq-eqb, ltb-true}
use Rattle.calculus.specs.declared.reply.Refusal.{Refusal}
use Rattle.calculus.specs.Lists.{has_number}
use Rattle.calculus.specs.Replacement.{first_refusal}
use Rattle.quel_meaning.specs.Copying.{refusal, bad_row}
use Rattle.quel_meaning.specs.Printed.{refusal_texts}
use Rattle.quel_meaning.proofs.Each.{left, right}
use Rattle.network_meaning.specs.Sorts.{Message, Reply.refused, Said.replied, Message.said}
use Rattle.quel_network.specs.Sorts.{quel_sorts}
use Rattle.quel_network.specs.Spelling.{refusal_codec, is_refusal_number, known_refusal, spelled_by}
use Rattle.quel_network.specs.CodecLaws.{spelled_again, only_spelled, refusal_exact, below_number32}

-- the refusal has the number of one, and its number, line and row fit their bytes
pub record HasSpelling (r : Refusal) : Type 0 where
  pub known : is_refusal_number r.code ≡ true
  pub fits : refusal_codec.Fits r

-- what all of these numbers pass, each of them passes
pub one_passes : (test : ℕ → Bool) (ns : List ℕ) (n : ℕ) → list_all test ns ≡ true → has_number ns n ≡ true → test n ≡ true
one_passes test [] n h k = absurd (cc k)
one_passes test (m ∷ ns) n h k = go (one_passes test ns n (right (test m) _ h)) (nat_eq m n) refl k
  where
    go : (has_number ns n ≡ true → test n ≡ true) → (b : Bool) → nat_eq m n ≡ b → (b || has_number ns n) ≡ true → test n ≡ true
    go later true e k = subst (λ x. test x ≡ true) (eqb-true m n e) (left (test m) _ h)
    go later false e k = later k

-- the number of a refusal fits in a byte
known_below : (n : ℕ) → is_refusal_number n ≡ true → n < 256
known_below n h = ltb-true n 256 (one_passes (λ m. nat_lt m 256) (31 ∷ map (λ t. t.0) refusal_texts) n refl h)

pub spelling_of : (r : Refusal) → is_refusal_number r.code ≡ true → r.line < 4294967296 → r.row < 4294967296 → HasSpelling r
spelling_of r known line row = record { known = known; fits = (known_below r.code known, (below_number32 r.line line, below_number32 r.row row)) }

-- a refusal of a number without a line or a row has a spelling
pub numbered_has : (n : ℕ) → is_refusal_number n ≡ true → HasSpelling (refusal n)
numbered_has n known = spelling_of (refusal n) known (omega arith) (omega arith)

pub bad_row_has : (row : ℕ) → row < 4294967296 → HasSpelling (bad_row row)
bad_row_has row h = spelling_of (bad_row row) refl (omega arith) h

-- it has one with each line of four bytes
pub lined_has : (line : ℕ) (r : Refusal) → line < 4294967296 → HasSpelling r → HasSpelling (record r { line = line })
lined_has line r h s = record { known = s.known; fits = (s.fits.0, (below_number32 line h, s.fits.1.1)) }

-- ---- causes

-- the first cause that is there is one of the causes
refusal_listed : (cs : List (ℕ × Bool)) (n : ℕ) → first_refusal cs ≡ Some n → has_number (map (λ c. c.0) cs) n ≡ true
refusal_listed [] n e = absurd (cc e)
refusal_listed (c ∷ cs) n e = go (refusal_listed cs n) c.1 e
  where
    later_on : (b d : Bool) → d ≡ true → (b || d) ≡ true
    later_on true d h = refl
    later_on false d h = h

    go : (first_refusal cs ≡ Some n → has_number (map (λ c. c.0) cs) n ≡ true) → (b : Bool)
        → ◌≡◌ {A = Option ℕ} (elim b [ true ↦ Some c.0 | false ↦ first_refusal cs ]) (Some n) → (nat_eq c.0 n || has_number (map (λ c. c.0) cs) n) ≡ true
    go later true e = ap (λ b. b || has_number (map (λ c. c.0) cs) n) (eq-eqb c.0 n (cc e))
    go later false e = later_on (nat_eq c.0 n) _ (later e)

-- the first of causes with numbers of refusals has one
pub cause_known : (cs : List (ℕ × Bool)) (n : ℕ) → list_all is_refusal_number (map (λ c. c.0) cs) ≡ true → first_refusal cs ≡ Some n → is_refusal_number n ≡ true
cause_known cs n all e = one_passes is_refusal_number (map (λ c. c.0) cs) n all (refusal_listed cs n e)

-- what is refused by the first of such causes alone is refused by such a number
pub caused_known : {A : Type 0} (cs : List (ℕ × Bool)) (a : A) (n : ℕ) → list_all is_refusal_number (map (λ c. c.0) cs) ≡ true
    → ◌≡◌ {A = Result A ℕ} (elim (first_refusal cs) [ None ↦ Ok a | Some number ↦ Err number ]) (Err n) → is_refusal_number n ≡ true
caused_known {A = A} cs a n all e = go (first_refusal cs) refl e
  where
    go : (o : Option ℕ) → first_refusal cs ≡ o → ◌≡◌ {A = Result A ℕ} (elim o [ None ↦ Ok a | Some number ↦ Err number ]) (Err n) → is_refusal_number n ≡ true
    go None f e = absurd (cc e)
    go (Some m) f e = let same : m ≡ n = cc e in subst (λ x. is_refusal_number x ≡ true) same (cause_known cs m all f)

-- ---- what is read

-- the refusal as a message
abbrev pub as_refused : Refusal → Message quel_sorts
as_refused r = said (replied (refused r))

-- the refusal that was read, as a message, where some refusal has its number
abbrev pub refused_of : Option Refusal → Option (Message quel_sorts)
refused_of o = option_map as_refused (option_and_then known_refusal o)

known_again : (r : Refusal) → is_refusal_number r.code ≡ true → refused_of (Some r) ≡ Some (as_refused r)
known_again r known = go (is_refusal_number r.code) known
  where
    go : (b : Bool) → b ≡ true → ◌≡◌ {A = Option (Message quel_sorts)} (option_map as_refused (elim b [ true ↦ Some r | false ↦ None ])) (Some (as_refused r))
    go true h = refl
    go false h = absurd (cc h)

-- a refusal that has a spelling is read again
pub refused_again : (r : Refusal) → HasSpelling r → refused_of (spelled_by refusal_codec (refusal_codec.write r)) ≡ Some (as_refused r)
refused_again r s = ap refused_of (spelled_again refusal_codec refusal_exact r s.fits) ∙ known_again r s.known

-- what a refusal is read from
pub record WasRefused (o : Option Refusal) (m : Message quel_sorts) : Type 0 where
  pub one : Refusal
  pub is : o ≡ Some one
  pub known : is_refusal_number one.code ≡ true
  pub message : as_refused one ≡ m

pub was_refused : (o : Option Refusal) (m : Message quel_sorts) → refused_of o ≡ Some m → WasRefused o m
was_refused None m e = absurd (cc e)
was_refused (Some r) m e = go (is_refusal_number r.code) refl e
  where
    go : (b : Bool) → is_refusal_number r.code ≡ b → ◌≡◌ {A = Option (Message quel_sorts)} (option_map as_refused (elim b [ true ↦ Some r | false ↦ None ])) (Some m) → WasRefused (Some r) m
    go true k e = record { one = r; is = refl; known = k; message = cc e }
    go false k e = absurd (cc e)

-- a refusal that is read again has a spelling
pub refused_only : (r : Refusal) → refused_of (spelled_by refusal_codec (refusal_codec.write r)) ≡ Some (as_refused r) → HasSpelling r
refused_only r e =
    let was = was_refused (spelled_by refusal_codec (refusal_codec.write r)) (as_refused r) e in
    let same : was.one ≡ r = cc was.message in
    record {
      known = subst (λ (x : Refusal). is_refusal_number x.code ≡ true) same was.known;
      fits = subst (λ (x : Refusal). refusal_codec.Fits x) same (only_spelled refusal_codec refusal_exact (refusal_codec.write r) was.one was.is).0;
    }
