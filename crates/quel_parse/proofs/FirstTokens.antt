-- What the first tokens of a text tell of it.
use Rattle.std.proofs.Common.{cond, slice_index_or, ◌≡◌, inl, inr, ℕ, zero, suc, ◌+◌, ◌-◌, ◌<◌, ◌≤◌, Bool, true, false, List, [], ◌∷◌, ◌++◌, map, length, length-append, take, take_all, Option, Some, None, Ok, Err, refl, sym, ap, ◌∙◌, append_assoc, append-nil, arith}
use Rattle.std.specs.Prelude.{IfSome, ◌==◌, slice_get, is_some, nat_lt, nat_le, option_map, ◌||◌, not}
use Rattle.std.proofs.lemmas.Bool.Decides.{nat_tests}
use Rattle.std.proofs.lemmas.List.{length-map, map-append, nil_from_length, length-take}
use Rattle.calculus.specs.declared.statement.Statement.{Statement}
use Rattle.quel_grammar.specs.declared.token.Token.{Token}
use Rattle.quel_grammar.specs.declared.token.Token.TheVariants as tokens
use Rattle.quel_grammar.specs.declared.token.Fixed.TheVariants as fixed
use Rattle.quel_grammar.specs.Begins.{Longest}
use Rattle.quel_grammar.specs.Bounds.{Before, is_past, with_token, has_keys, past_behind, first_past}
use Rattle.quel_grammar.specs.Pieces.{Placed, Pieces, pieces_from, tokens_of, end_behind, bad_or, begin_or, end_of, place_behind}
use Rattle.quel_grammar.specs.Next.{IsBlank, IsRefused, IsNextOf}
use Rattle.quel_grammar.specs.Next.Next.{Nothing}
use Rattle.quel_grammar.specs.NextReader.{taken, next_at}
use Rattle.quel_grammar.specs.Reading.{Read as ReadOf}
use Rattle.quel_grammar.specs.StatementReaders.{statement_by}
use Rattle.quel_grammar.proofs.Answered.{IsParse, is_parse, reads}
use Rattle.quel_grammar.proofs.OneReading.{longest_holds, one_next}
use Rattle.quel_lexer.specs.declared.lexed.Span.{Span}
use Rattle.quel_lexer.specs.declared.lexed.Stop.{Stop}
use Rattle.quel_lexer.specs.declared.lexed.Stop.TheVariants as stops
use Rattle.quel_lexer.specs.declared.lexed.Lexed.{Lexed}
use Rattle.quel_lexer.specs.Lexed.{span_of, IsStop, IsFront, stop_or}
use Rattle.quel_parse.specs.declared.next.Next.{Next}
use Rattle.quel_parse.specs.declared.next.Front.{Front}
use Rattle.quel_parse.specs.Next.{IsFrontRead, value_of, last_end, place_in, unbounded, answer_in, is_more, is_sure, seen, is_blank, blank_at}

-- ---- the bounds, where more tokens follow

past_one : (before : Before) (b : Bool) (o o2 : Option ℕ) (k : ℕ) → (o ≡ Some k → o2 ≡ Some k)
    → elim b [ true ↦ Some before.tokens | false ↦ o ] ≡ Some k → elim b [ true ↦ Some before.tokens | false ↦ o2 ] ≡ Some k
past_one before true o o2 k f e = e
past_one before false o o2 k f e = f e

past_front : (keyed : Bool) (before : Before) (ts more : List Token) (k : ℕ) → past_behind keyed before ts ≡ Some k → past_behind keyed before (ts ++ more) ≡ Some k
unfolding past_behind
past_front keyed before [] more k e = absurd cc
past_front keyed before (t ∷ ts) more k e =
    past_one before (is_past before t) (past_behind keyed (with_token keyed before t) ts) (past_behind keyed (with_token keyed before t) (ts ++ more)) k
    (past_front keyed (with_token keyed before t) ts more k) e

-- only the first token says whether commas stand between keys
keys_of_first : (t : Token) (ts us : List Token) → has_keys (t ∷ ts) ≡ has_keys (t ∷ us)
keys_of_first (tokens.Fixed fixed.All) ts us = refl
keys_of_first (tokens.Fixed fixed.And) ts us = refl
keys_of_first (tokens.Fixed fixed.Append) ts us = refl
keys_of_first (tokens.Fixed fixed.By) ts us = refl
keys_of_first (tokens.Fixed fixed.Copy) ts us = refl
keys_of_first (tokens.Fixed fixed.Create) ts us = refl
keys_of_first (tokens.Fixed fixed.Define) ts us = refl
keys_of_first (tokens.Fixed fixed.Delete) ts us = refl
keys_of_first (tokens.Fixed fixed.Destroy) ts us = refl
keys_of_first (tokens.Fixed fixed.From) ts us = refl
keys_of_first (tokens.Fixed fixed.Help) ts us = refl
keys_of_first (tokens.Fixed fixed.Index) ts us = refl
keys_of_first (tokens.Fixed fixed.Integrity) ts us = refl
keys_of_first (tokens.Fixed fixed.Into) ts us = refl
keys_of_first (tokens.Fixed fixed.Is) ts us = refl
keys_of_first (tokens.Fixed fixed.Modify) ts us = refl
keys_of_first (tokens.Fixed fixed.Not) ts us = refl
keys_of_first (tokens.Fixed fixed.Of) ts us = refl
keys_of_first (tokens.Fixed fixed.On) ts us = refl
keys_of_first (tokens.Fixed fixed.Or) ts us = refl
keys_of_first (tokens.Fixed fixed.Permit) ts us = refl
keys_of_first (tokens.Fixed fixed.Print) ts us = refl
keys_of_first (tokens.Fixed fixed.Range) ts us = refl
keys_of_first (tokens.Fixed fixed.Replace) ts us = refl
keys_of_first (tokens.Fixed fixed.Retrieve) ts us = refl
keys_of_first (tokens.Fixed fixed.Sort) ts us = refl
keys_of_first (tokens.Fixed fixed.To) ts us = refl
keys_of_first (tokens.Fixed fixed.Unique) ts us = refl
keys_of_first (tokens.Fixed fixed.View) ts us = refl
keys_of_first (tokens.Fixed fixed.Where) ts us = refl
keys_of_first (tokens.Fixed fixed.Open) ts us = refl
keys_of_first (tokens.Fixed fixed.Close) ts us = refl
keys_of_first (tokens.Fixed fixed.Comma) ts us = refl
keys_of_first (tokens.Fixed fixed.Dot) ts us = refl
keys_of_first (tokens.Fixed fixed.Colon) ts us = refl
keys_of_first (tokens.Fixed fixed.Equal) ts us = refl
keys_of_first (tokens.Fixed fixed.NotEqual) ts us = refl
keys_of_first (tokens.Fixed fixed.Less) ts us = refl
keys_of_first (tokens.Fixed fixed.LessEqual) ts us = refl
keys_of_first (tokens.Fixed fixed.Greater) ts us = refl
keys_of_first (tokens.Fixed fixed.GreaterEqual) ts us = refl
keys_of_first (tokens.Fixed fixed.Plus) ts us = refl
keys_of_first (tokens.Fixed fixed.Minus) ts us = refl
keys_of_first (tokens.Fixed fixed.Times) ts us = refl
keys_of_first (tokens.Fixed fixed.Divide) ts us = refl
keys_of_first (tokens.Fixed fixed.Power) ts us = refl
keys_of_first (tokens.Name v) ts us = refl
keys_of_first (tokens.Int n) ts us = refl
keys_of_first (tokens.Text c) ts us = refl

-- what passes a bound does so whatever follows
pub first_past_front : (ts more : List Token) (k : ℕ) → first_past ts ≡ Some k → first_past (ts ++ more) ≡ Some k
unfolding first_past past_behind
first_past_front [] more k e = absurd cc
first_past_front (t ∷ ts) more k e =
    let nothing : Before = record { tokens = 0; open_ = 0; commas = 0 } in
    ap (λ keyed. past_behind keyed nothing (t ∷ (ts ++ more))) (keys_of_first t (ts ++ more) ts)
    ∙ past_front (has_keys (t ∷ ts)) nothing (t ∷ ts) more k e

within_one : (before : Before) (b : Bool) (o : Option ℕ) (k n : ℕ) → (o ≡ Some k → (before.tokens + 1 ≤ k) × (k < before.tokens + 1 + n))
    → elim b [ true ↦ Some before.tokens | false ↦ o ] ≡ Some k → (before.tokens ≤ k) × (k < before.tokens + suc n)
within_one before true o k n f e = let same : before.tokens ≡ k = cc in (omega (arith, same), omega (arith, same))
within_one before false o k n f e = let r = f e in (omega (arith, r.0), omega (arith, r.1))

-- the token that passes a bound is one of them
past_within : (keyed : Bool) (before : Before) (ts : List Token) (k : ℕ) → past_behind keyed before ts ≡ Some k → (before.tokens ≤ k) × (k < before.tokens + length ts)
unfolding past_behind
past_within keyed before [] k e = absurd cc
past_within keyed before (t ∷ ts) k e =
    within_one before (is_past before t) (past_behind keyed (with_token keyed before t) ts) k (length ts) (past_within keyed (with_token keyed before t) ts k) e

pub first_past_within : (ts : List Token) (k : ℕ) → first_past ts ≡ Some k → k < length ts
unfolding first_past
first_past_within ts k e = let r = past_within (has_keys ts) (record { tokens = 0; open_ = 0; commas = 0 }) ts k e in omega (arith, r.1)

full : (before : Before) (t : Token) → 500 ≤ before.tokens → is_past before t ≡ true
full before t le = let many : nat_le 500 before.tokens ≡ true = grind (arith, nat_tests, le) in rw many refl

many_one : (before : Before) (b : Bool) (o : Option ℕ) → (b ≡ false → is_some o ≡ true) → is_some (elim b [ true ↦ Some before.tokens | false ↦ o ]) ≡ true
many_one before true o f = refl
many_one before false o f = f refl

-- of 501 tokens one passes a bound
past_many : (keyed : Bool) (before : Before) (ts : List Token) → 501 ≤ before.tokens + length ts → 0 < length ts → is_some (past_behind keyed before ts) ≡ true
unfolding past_behind
past_many keyed before [] le lt = absurd (omega arith)
past_many keyed before (t ∷ []) le lt =
    many_one before (is_past before t) None (λ e. let f : is_past before t ≡ true = full before t (omega (arith, le)) in absurd cc)
past_many keyed before (t ∷ u ∷ us) le lt =
    many_one before (is_past before t) (past_behind keyed (with_token keyed before t) (u ∷ us)) (λ e. past_many keyed (with_token keyed before t) (u ∷ us) (omega (arith, le)) (omega arith))

-- so some token of 501 passes a bound
pub first_past_many : (ts : List Token) → 501 ≤ length ts → is_some (first_past ts) ≡ true
unfolding first_past
first_past_many ts le = past_many (has_keys ts) (record { tokens = 0; open_ = 0; commas = 0 }) ts (omega (arith, le)) (omega (arith, le))

-- ---- places

last_same : (at : ℕ) (ps : List Placed) → last_end at (map span_of ps) ≡ end_behind at ps
last_same at [] = refl
last_same at (p ∷ ps) = last_same p.end ps

take_map : {A B : Type 0} (f : A → B) (n : ℕ) (xs : List A) → take n (map f xs) ≡ map f (take n xs)
take_map f zero xs = refl
take_map f (suc n) [] = refl
take_map f (suc n) (x ∷ xs) = ap (λ ys. f x ∷ ys) (take_map f n xs)

get_map : {A B : Type 0} (f : A → B) (n : ℕ) (xs : List A) → slice_get (map f xs) n ≡ option_map f (slice_get xs n)
get_map f n [] = refl
get_map f zero (x ∷ xs) = refl
get_map f (suc n) (x ∷ xs) = get_map f n xs

get_front : {A : Type 0} (n : ℕ) (xs ys : List A) → n < length xs → slice_get (xs ++ ys) n ≡ slice_get xs n
get_front n [] ys lt = absurd (omega (arith, lt))
get_front zero (x ∷ xs) ys lt = refl
get_front (suc n) (x ∷ xs) ys lt = get_front n xs ys (omega (arith, lt))

get_some : {A : Type 0} (n : ℕ) (xs : List A) → n < length xs → slice_get xs n ≡ None → ⊥
get_some n [] lt e = omega (arith, lt)
get_some zero (x ∷ xs) lt e = cc
get_some (suc n) (x ∷ xs) lt e = get_some n xs (omega (arith, lt)) e

take_front : {A : Type 0} (n : ℕ) (xs ys : List A) → n ≤ length xs → take n (xs ++ ys) ≡ take n xs
take_front zero xs ys le = refl
take_front (suc n) [] ys le = absurd (omega (arith, le))
take_front (suc n) (x ∷ xs) ys le = ap (λ zs. x ∷ zs) (take_front n xs ys (omega (arith, le)))

place_one : (lexed : Lexed) (y : ℕ) (o : Option Placed) → (o ≡ None → stop_or (last_end 0 lexed.spans.items) lexed.stop ≡ y) → place_in lexed (option_map span_of o) ≡ begin_or y o
place_one lexed y (Some p) f = refl
place_one lexed y None f = f refl

module _ (all : Pieces) (lexed : Lexed) (cut : IsFront all lexed) where
  many : length lexed.tokens.items ≡ length cut.front
  many = ap length cut.tokens ∙ length-map cut.front _

  -- where the tokens were all cut, these are all
  all_cut : cut.later ≡ [] → all.placed ≡ cut.front
  all_cut e = cut.same ∙ ap (λ ps. cut.front ++ ps) e ∙ append-nil cut.front

  got : (number : ℕ) → slice_get lexed.spans.items number ≡ option_map span_of (slice_get cut.front number)
  got number = ap (λ ss. slice_get ss number) cut.spans ∙ get_map span_of number cut.front

  place_with : (number : ℕ) → slice_get all.placed number ≡ slice_get cut.front number
      → (slice_get cut.front number ≡ None → stop_or (last_end 0 lexed.spans.items) lexed.stop ≡ bad_or (end_behind 0 all.placed) all.bad)
      → place_in lexed (slice_get lexed.spans.items number) ≡ place_behind all number
  place_with number e f =
      ap (place_in lexed) (got number) ∙ place_one lexed (bad_or (end_behind 0 all.placed) all.bad) (slice_get cut.front number) f
      ∙ ap (begin_or (bad_or (end_behind 0 all.placed) all.bad)) (sym e)

  last_all : cut.later ≡ [] → last_end 0 lexed.spans.items ≡ end_behind 0 all.placed
  last_all e = ap (last_end 0) cut.spans ∙ last_same 0 cut.front ∙ ap (end_behind 0) (sym (all_cut e))

  place_at : (number : ℕ) (stop : Stop) → lexed.stop ≡ stop → IsStop cut.later all stop → (is_more stop ≡ true → number < length cut.front)
      → place_in lexed (slice_get lexed.spans.items number) ≡ place_behind all number
  place_at number stops.More e is_stop within =
      place_with number (ap (λ ps. slice_get ps number) cut.same ∙ get_front number cut.front cut.later (within refl)) (λ f. absurd (get_some number cut.front (within refl) f))
  place_at number stops.End e is_stop within =
      place_with number (ap (λ ps. slice_get ps number) (all_cut is_stop.0)) (λ f. rw (e, is_stop.1) (last_all is_stop.0))
  place_at number (stops.Bad bad) e is_stop within =
      place_with number (ap (λ ps. slice_get ps number) (all_cut is_stop.0)) (λ f. rw (e, is_stop.1) refl)

  -- where the token of this number stands, or what follows all tokens
  pub place : (number : ℕ) → (is_more lexed.stop ≡ true → number < length lexed.tokens.items) → place_in lexed (slice_get lexed.spans.items number) ≡ place_behind all number
  place number within = place_at number lexed.stop refl cut.stopped (λ e. omega (arith, within e, many))

  -- where the last of so many tokens ends
  pub end : (n : ℕ) → n ≤ length lexed.tokens.items → last_end 0 (take n lexed.spans.items) ≡ end_of all n
  end n le =
      ap (λ ss. last_end 0 (take n ss)) cut.spans ∙ ap (last_end 0) (take_map span_of n cut.front) ∙ last_same 0 (take n cut.front)
      ∙ ap (end_behind 0) (sym (take_front n cut.front cut.later (omega (arith, le, many))) ∙ ap (take n) (sym cut.same))

  -- the tokens that were cut are the first ones
  abbrev later_tokens : List Token
  later_tokens = map (λ p. p.token) cut.later

  tokens_same : tokens_of all ≡ lexed.tokens.items ++ later_tokens
  tokens_same = ap (map (λ p. p.token)) cut.same ∙ map-append (λ p. p.token) cut.front cut.later ∙ ap (λ ts. ts ++ later_tokens) (sym cut.tokens)

  none_later : (stop : Stop) → lexed.stop ≡ stop → IsStop cut.later all stop → is_more stop ≡ false → later_tokens ≡ []
  none_later stops.More e is_stop no_more = absurd cc
  none_later stops.End e is_stop no_more = ap (map (λ p. p.token)) is_stop.0
  none_later (stops.Bad bad) e is_stop no_more = ap (map (λ p. p.token)) is_stop.0

  grown : (front rest : List Token) → Longest lexed.tokens.items front rest → (rest ≡ [] → later_tokens ≡ []) → Longest (tokens_of all) front (rest ++ later_tokens)
  grown front [] longest none = record {
    same = tokens_same ∙ ap (λ ts. ts ++ later_tokens) longest.same ∙ append_assoc front [] later_tokens;
    begins = longest.begins;
    last = rw (none refl) tt;
  }
  grown front (t ∷ rest) longest none = record {
    same = tokens_same ∙ ap (λ ts. ts ++ later_tokens) longest.same ∙ append_assoc front (t ∷ rest) later_tokens;
    begins = longest.begins;
    last = longest.last;
  }

  module _ (some : IsBlank all → ⊥) where
    -- a token of a run that begins a statement passes a bound
    past : (front rest : List Token) (k : ℕ) → Longest lexed.tokens.items front rest → first_past front ≡ Some k → IsRefused all (place_in lexed (slice_get lexed.spans.items k))
    past front rest k longest e = by_parse (statement_by (suc (length (tokens_of all))) (tokens_of all)) (is_parse (tokens_of all) (suc (length (tokens_of all))) (omega arith))
      where
        short : k < length lexed.tokens.items
        short = omega (arith, first_past_within front k e, ap length longest.same, length-append front rest)

        refused : (front2 rest2 : List Token) → Longest (tokens_of all) front2 rest2 → IsRefused all (place_in lexed (slice_get lexed.spans.items k))
        refused front2 rest2 longest2 =
            let same : tokens_of all ≡ front ++ (rest ++ later_tokens) = tokens_same ∙ ap (λ ts. ts ++ later_tokens) longest.same ∙ append_assoc front rest later_tokens in
            let holds = longest_holds (tokens_of all) front2 rest2 longest2 front (rest ++ later_tokens) longest.begins same in
            record {
              front = front2;
              rest = rest2;
              some = some;
              longest = longest2;
              number = k;
              stopped = inl (ap first_past holds.1 ∙ first_past_front front holds.0 k e);
              there = place k (λ m. short);
            }

        by_parse : (x : ReadOf Statement) → IsParse (tokens_of all) x → IsRefused all (place_in lexed (slice_get lexed.spans.items k))
        by_parse (Ok x) p = refused p.0 x.1 p.1
        by_parse (Err rest2) p = refused p.0 rest2 p.1

    -- ---- what the tokens tell, where they are sure to

    sure_more : (n : ℕ) → is_sure n None lexed ≡ true → is_more lexed.stop ≡ true → n < length lexed.tokens.items
    sure_more n sure more = by_test (nat_lt n (length lexed.tokens.items)) refl (is_more lexed.stop) more sure
      where
        by_test : (b : Bool) → nat_lt n (length lexed.tokens.items) ≡ b → (c : Bool) → c ≡ true → (b || false || not c) ≡ true → n < length lexed.tokens.items
        by_test true e c f g = grind (arith, nat_tests, e)
        by_test false e true f g = absurd cc
        by_test false e false f g = absurd cc

    sure_all : (n : ℕ) → is_sure n None lexed ≡ true → n ≡ length lexed.tokens.items → is_more lexed.stop ≡ false
    sure_all n sure e = by_test (is_more lexed.stop) refl
      where
        by_test : (c : Bool) → is_more lexed.stop ≡ c → c ≡ false
        by_test true f = let lt = sure_more n sure f in absurd (omega (arith, lt, e))
        by_test false f = refl

    number_taken : (front rest : List Token) → lexed.tokens.items ≡ front ++ rest → length lexed.tokens.items - length rest ≡ length front
    number_taken front rest e = omega (arith, ap length e, length-append front rest)

    front_taken : (front rest : List Token) (n : ℕ) → n ≡ length front → lexed.tokens.items ≡ front ++ rest → take n lexed.tokens.items ≡ front
    front_taken front rest n e f = rw (e, f) (take_front (length front) front rest (omega arith) ∙ take_all (length front) front (omega arith))

    -- where the run has all tokens that were cut, no more follow
    none : (n : ℕ) (front rest : List Token) → n ≡ length front → lexed.tokens.items ≡ front ++ rest → is_sure n None lexed ≡ true → rest ≡ [] → later_tokens ≡ []
    none n front rest e f sure g =
        let whole : n ≡ length lexed.tokens.items = e ∙ ap length (sym (f ∙ ap (λ ts. front ++ ts) g ∙ append-nil front)) in
        none_later lexed.stop refl cut.stopped (sure_all n sure whole)

    unpast : (x : ReadOf Statement) → IsParse lexed.tokens.items x → (n : ℕ) → n ≡ taken lexed.tokens.items x → first_past (take n lexed.tokens.items) ≡ None
        → is_sure n None lexed ≡ true → IsNextOf all (seen (unbounded lexed (value_of x) n))
    unpast (Ok x) p n e o sure =
        let number : n ≡ length p.0 = e ∙ number_taken p.0 x.1 p.1.same in
        let front : take n lexed.tokens.items ≡ p.0 = front_taken p.0 x.1 n number p.1.same in
        record {
          front = p.0;
          rest = x.1 ++ later_tokens;
          longest = grown p.0 x.1 p.1 (none n p.0 x.1 number p.1.same sure);
          bounded = ap first_past (sym front) ∙ o;
          is_one = p.2;
          there = end n (omega (arith, number, ap length p.1.same, length-append p.0 x.1)) ∙ ap (end_of all) number;
        }
    unpast (Err rest) p n e o sure =
        let number : n ≡ length p.0 = e ∙ number_taken p.0 rest p.1.same in
        let front : take n lexed.tokens.items ≡ p.0 = front_taken p.0 rest n number p.1.same in
        record {
          front = p.0;
          rest = rest ++ later_tokens;
          some = some;
          longest = grown p.0 rest p.1 (none n p.0 rest number p.1.same sure);
          number = length p.0;
          stopped = inr (ap first_past (sym front) ∙ o, p.2, refl);
          there = place n (sure_more n sure) ∙ ap (place_behind all) number;
        }

    past_some : (x : ReadOf Statement) → IsParse lexed.tokens.items x → (n : ℕ) → n ≡ taken lexed.tokens.items x → (k : ℕ) → first_past (take n lexed.tokens.items) ≡ Some k
        → IsRefused all (place_in lexed (slice_get lexed.spans.items k))
    past_some (Ok x) p n e k o =
        let number : n ≡ length p.0 = e ∙ number_taken p.0 x.1 p.1.same in
        past p.0 x.1 k p.1 (ap first_past (sym (front_taken p.0 x.1 n number p.1.same)) ∙ o)
    past_some (Err rest) p n e k o =
        let number : n ≡ length p.0 = e ∙ number_taken p.0 rest p.1.same in
        past p.0 rest k p.1 (ap first_past (sym (front_taken p.0 rest n number p.1.same)) ∙ o)

    -- what is answered is what is read
    pub decided : (front : Front Statement) → IsFrontRead lexed.tokens.items front → (o : Option ℕ) → first_past (take front.taken lexed.tokens.items) ≡ o → is_sure front.taken o lexed ≡ true
        → IsNextOf all (seen (answer_in lexed front o))
    decided front read (Some k) e sure =
        past_some (statement_by (suc (length lexed.tokens.items)) lexed.tokens.items) (is_parse lexed.tokens.items (suc (length lexed.tokens.items)) (omega arith)) front.taken read.number k e
    decided front read None e sure =
        rw read.value (unpast (statement_by (suc (length lexed.tokens.items)) lexed.tokens.items) (is_parse lexed.tokens.items (suc (length lexed.tokens.items)) (omega arith)) front.taken read.number e sure)

  -- ---- white space alone

  -- neither a token nor anything bad was cut
  pub blank : length lexed.tokens.items ≡ 0 → lexed.stop ≡ stops.End → IsBlank all
  blank e f =
      let is_stop : IsStop cut.later all stops.End = rw f at cut.stopped in
      let nothing : cut.front ≡ [] = nil_from_length cut.front (sym many ∙ e) in
      record { no_token = all_cut is_stop.0 ∙ nothing; no_bad = is_stop.1 }

  empty_later : all.placed ≡ [] → cut.front ≡ []
  empty_later e = by_cases cut.front (sym cut.same ∙ e)
    where
      by_cases : (ps : List Placed) → ps ++ cut.later ≡ [] → ps ≡ []
      by_cases [] f = refl
      by_cases (p ∷ ps) f = absurd cc

  -- where something was cut, or may follow, there is some
  pub some_piece : (sure : is_more lexed.stop ≡ true → 0 < length lexed.tokens.items) → (length lexed.tokens.items ≡ 0 → lexed.stop ≡ stops.End → ⊥) → IsBlank all → ⊥
  some_piece sure never is_blank = by_stop lexed.stop refl cut.stopped
    where
      nothing : length lexed.tokens.items ≡ 0
      nothing = many ∙ ap length (empty_later is_blank.no_token)

      by_stop : (stop : Stop) → lexed.stop ≡ stop → IsStop cut.later all stop → ⊥
      by_stop stops.More e is_stop = let lt = sure (ap is_more e) in omega (arith, lt, nothing)
      by_stop stops.End e is_stop = never nothing e
      by_stop (stops.Bad bad) e is_stop = let f : None ≡ Some bad = sym is_blank.no_bad ∙ is_stop.1 in absurd cc

-- the last of some ends where they all end
pub last_at : (at n : ℕ) (d : Span) (ss : List Span) → length ss ≡ suc n → (slice_index_or ss n d).end ≡ last_end at ss
last_at at n d [] e = absurd (omega (arith, e))
last_at at zero d (s ∷ []) e = refl
last_at at zero d (s ∷ t ∷ ss) e = absurd (omega (arith, e))
last_at at (suc n) d (s ∷ []) e = absurd (omega (arith, e))
last_at at (suc n) d (s ∷ t ∷ ss) e = last_at s.end n d (t ∷ ss) (omega (arith, e))

-- ---- what is known of a text

module _ (text : List ℕ) (from : ℕ) (lexed : Lexed) (cut : IsFront (pieces_from text from) lexed) where
  -- nothing is there
  pub decided_blank : is_blank lexed ≡ true → Nothing ≡ next_at text from
  decided_blank e = by_stop lexed.stop refl e
    where
      by_stop : (stop : Stop) → lexed.stop ≡ stop → blank_at (length lexed.tokens.items) stop ≡ true → Nothing ≡ next_at text from
      by_stop stops.End f g = let none : length lexed.tokens.items ≡ 0 = grind (arith, nat_tests, g) in one_next (pieces_from text from) Nothing (next_at text from) (blank (pieces_from text from) lexed cut none f) (reads text from)
      by_stop stops.More f g = absurd cc
      by_stop (stops.Bad bad) f g = absurd cc

  never_blank : is_blank lexed ≡ false → length lexed.tokens.items ≡ 0 → lexed.stop ≡ stops.End → ⊥
  never_blank e none f =
      let g : blank_at (length lexed.tokens.items) stops.End ≡ false = rw f at e in
      let h : (0 == 0) ≡ false = rw none at g in absurd cc

  -- some token was cut, where it is sure though more may follow
  some_cut : (n : ℕ) (o : Option ℕ) → o ≡ first_past (take n lexed.tokens.items) → is_sure n o lexed ≡ true → is_more lexed.stop ≡ true → 0 < length lexed.tokens.items
  some_cut n o past sure more = by_test (nat_lt n (length lexed.tokens.items)) refl o past (is_more lexed.stop) more sure
    where
      by_test : (b : Bool) → nat_lt n (length lexed.tokens.items) ≡ b → (o : Option ℕ) → o ≡ first_past (take n lexed.tokens.items) → (c : Bool) → c ≡ true
          → (b || is_some o || not c) ≡ true → 0 < length lexed.tokens.items
      by_test true e o f c g h = grind (arith, nat_tests, e)
      by_test false e (Some k) f c g h = omega (arith, first_past_within (take n lexed.tokens.items) k (sym f), length-take n lexed.tokens.items)
      by_test false e None f true g h = absurd cc
      by_test false e None f false g h = absurd cc

  -- what is answered is what is read, where it is sure
  pub decided_text : is_blank lexed ≡ false → (front : Front Statement) → IsFrontRead lexed.tokens.items front → (o : Option ℕ) → o ≡ first_past (take front.taken lexed.tokens.items)
      → (sure : Bool) → sure ≡ is_sure front.taken o lexed → (a : Next Statement) → a ≡ answer_in lexed front o
      → IfSome (cond sure (Some a) None) (λ next. seen next ≡ next_at text from)
  decided_text unblank front read o past false sure a e = tt
  decided_text unblank front read o past true sure a e =
      let all = pieces_from text from in
      let some = some_piece all lexed cut (some_cut front.taken o past (sym sure)) (never_blank unblank) in
      one_next all (seen a) (next_at text from) (rw e (decided all lexed cut some front read o (sym past) (sym sure))) (reads text from)

-- ---- when it is sure

-- no more tokens were taken than there are
pub taken_within : (ts : List Token) (front : Front Statement) → IsFrontRead ts front → front.taken ≤ length ts
taken_within ts front read = by_read (statement_by (suc (length ts)) ts) read.number
  where
    by_read : (x : ReadOf Statement) → front.taken ≡ taken ts x → front.taken ≤ length ts
    by_read (Ok x) e = omega (arith, e)
    by_read (Err rest) e = omega (arith, e)

or_true : (b : Bool) → (b || true) ≡ true
or_true true = refl
or_true false = refl

-- it is sure, where more than 500 tokens were cut if more may follow
pub sure_whole : (lexed : Lexed) (n : ℕ) (o : Option ℕ) → n ≤ length lexed.tokens.items → o ≡ first_past (take n lexed.tokens.items) → (lexed.stop ≡ stops.More → length lexed.tokens.items ≡ 501)
    → is_sure n o lexed ≡ true
sure_whole lexed n o le past full = by_test (nat_lt n (length lexed.tokens.items)) refl lexed.stop refl
  where
    by_test : (b : Bool) → nat_lt n (length lexed.tokens.items) ≡ b → (stop : Stop) → lexed.stop ≡ stop → (b || is_some o || not (is_more stop)) ≡ true
    by_test true e stop f = refl
    by_test false e stops.End f = or_true (is_some o)
    by_test false e (stops.Bad bad) f = or_true (is_some o)
    by_test false e stops.More f =
        let many : length lexed.tokens.items ≡ 501 = full f in
        let same : n ≡ length lexed.tokens.items = grind (arith, nat_tests, e, le) in
        let whole : take n lexed.tokens.items ≡ lexed.tokens.items = rw same (take_all (length lexed.tokens.items) lexed.tokens.items (omega arith)) in
        let some : is_some o ≡ true = ap is_some past ∙ ap (λ ts. is_some (first_past ts)) whole ∙ first_past_many lexed.tokens.items (omega (arith, many)) in
        rw some refl

pub decided_all : {A : Type 0} (lexed : Lexed) (n : ℕ) (o : Option ℕ) (sure : Bool) (a : A) → sure ≡ is_sure n o lexed → is_sure n o lexed ≡ true → is_some (cond sure (Some a) None) ≡ true
decided_all lexed n o true a e f = refl
decided_all lexed n o false a e f = absurd cc
