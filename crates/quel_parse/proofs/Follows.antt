-- What follows the next token behind a statement changes nothing.
use Rattle.std.proofs.Common.{◌≡◌, inl, inr, ℕ, zero, suc, ◌≤◌, List, [], ◌∷◌, ◌++◌, map, length, take, refl, sym, ap, ◌∙◌, arith}
use Rattle.std.specs.Prelude.{slice_get}
use Rattle.std.proofs.lemmas.List.{length-map, map-append}
use Rattle.quel_grammar.specs.declared.token.Token.{Token}
use Rattle.quel_grammar.specs.Begins.{Longest}
use Rattle.quel_grammar.specs.Pieces.{Placed, Pieces, pieces_from, tokens_of, begin_or, end_of, place_behind}
use Rattle.quel_grammar.specs.Next.{Next, IsBlank, IsStopped, IsNextOf}
use Rattle.quel_grammar.specs.Next.Next.{Nothing, Read, Syntax}
use Rattle.quel_grammar.specs.NextReader.{next_at}
use Rattle.quel_grammar.proofs.Answered.{reads}
use Rattle.quel_grammar.proofs.OneReading.{one_longest, one_next}
use Rattle.quel_parse.specs.Laws.{IsUsed}
use Rattle.quel_parse.proofs.FirstTokens.{first_past_within}

-- the tokens of these
abbrev named : List Placed → List Token
named ps = map (λ p. p.token) ps

take_used : (used later : List Placed) → take (length used) (used ++ later) ≡ used
take_used [] later = refl
take_used (p ∷ used) later = ap (λ ps. p ∷ ps) (take_used used later)

-- the same token stands at a number that is used, or is the next one
begin_used : (used : List Placed) (next : Placed) (later later2 : List Placed) (d d2 k : ℕ) → k ≤ length used
    → begin_or d (slice_get (used ++ next ∷ later) k) ≡ begin_or d2 (slice_get (used ++ next ∷ later2) k)
begin_used [] next later later2 d d2 zero le = refl
begin_used [] next later later2 d d2 (suc k) le = absurd (omega (arith, le))
begin_used (p ∷ used) next later later2 d d2 zero le = refl
begin_used (p ∷ used) next later later2 d d2 (suc k) le = begin_used used next later later2 d d2 k (omega (arith, le))

some_token : (used : List Placed) (next : Placed) (later : List Placed) → used ++ next ∷ later ≡ [] → ⊥
some_token [] next later e = absurd cc
some_token (p ∷ used) next later e = absurd cc

module _ (used : List Placed) (next : Placed) (is_used : IsUsed used next) where
  longest : (all : Pieces) (later : List Placed) → all.placed ≡ used ++ next ∷ later → Longest (tokens_of all) (named used) (next.token ∷ named later)
  longest all later e = record { same = ap named e ∙ map-append (λ p. p.token) used (next ∷ later); begins = is_used.begins; last = is_used.last }

  module _ (one two : Pieces) (later later2 : List Placed) (e : one.placed ≡ used ++ next ∷ later) (e2 : two.placed ≡ used ++ next ∷ later2) where
    some : IsBlank two → ⊥
    some blank = some_token used next later2 (sym e2 ∙ blank.no_token)

    same_end : (front : List Token) → front ≡ named used → end_of one (length front) ≡ end_of two (length front)
    same_end front f =
        let number : length front ≡ length used = ap length f ∙ length-map used _ in
        rw (number, e, e2, take_used used (next ∷ later), take_used used (next ∷ later2)) refl

    stopped_within : (front : List Token) (k : ℕ) → front ≡ named used → IsStopped front k → k ≤ length used
    stopped_within front k f (inl p) = omega (arith, first_past_within front k p, ap length f, length-map used (λ p. p.token))
    stopped_within front k f (inr p) = omega (arith, p.2, ap length f, length-map used (λ p. p.token))

    same_place : (k : ℕ) → k ≤ length used → place_behind one k ≡ place_behind two k
    same_place k le = rw (e, e2) (begin_used used next later later2 _ _ k le)

    carried : (a : Next) → IsNextOf one a → IsNextOf two a
    carried Nothing blank = absurd (some_token used next later (sym e ∙ blank.no_token))
    carried (Read s end) read =
        let f : read.front ≡ named used = one_longest _ _ _ _ _ read.longest (longest one later e) in
        record {
          front = read.front;
          rest = next.token ∷ named later2;
          longest = rw f (longest two later2 e2);
          bounded = read.bounded;
          is_one = read.is_one;
          there = read.there ∙ same_end read.front f;
        }
    carried (Syntax at) refused =
        let f : refused.front ≡ named used = one_longest _ _ _ _ _ refused.longest (longest one later e) in
        record {
          front = refused.front;
          rest = next.token ∷ named later2;
          some = some;
          longest = rw f (longest two later2 e2);
          number = refused.number;
          stopped = refused.stopped;
          there = refused.there ∙ same_place refused.number (stopped_within refused.front refused.number f refused.stopped);
        }

-- what follows the next token changes nothing
pub follows : (text other : List ℕ) (from : ℕ) (used : List Placed) (next : Placed) (later later2 : List Placed) → (pieces_from text from).placed ≡ used ++ next ∷ later
    → (pieces_from other from).placed ≡ used ++ next ∷ later2 → IsUsed used next → next_at other from ≡ next_at text from
follows text other from used next later later2 e e2 is_used =
    one_next (pieces_from other from) (next_at other from) (next_at text from) (reads other from)
    (carried used next is_used (pieces_from text from) (pieces_from other from) later later2 e e2 (next_at text from) (reads text from))
