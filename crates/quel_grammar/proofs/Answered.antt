-- What is computed is what the grammar allows.
use Rattle.std.proofs.Common.{◌≡◌, inl, inr, ℕ, suc, ◌+◌, ◌-◌, ◌<◌, ◌≤◌, List, [], ◌∷◌, ◌++◌, length, length-append, take, Option, Some, None, Ok, Err, refl, sym, ap, ◌∙◌, append_assoc, append-nil, arith}
use Rattle.std.proofs.lemmas.List.{append_cancel_right}
use Rattle.calculus.specs.declared.statement.Statement.{Statement}
use Rattle.quel_grammar.specs.declared.token.Token.{Token}
use Rattle.quel_grammar.specs.Statements.{IsStatement}
use Rattle.quel_grammar.specs.Begins.{IsLast, Longest}
use Rattle.quel_grammar.specs.Bounds.{first_past}
use Rattle.quel_grammar.specs.Pieces.{Placed, Pieces, pieces_from, tokens_of, end_of, place_behind}
use Rattle.quel_grammar.specs.Reading.{Read as ReadOf}
use Rattle.quel_grammar.specs.StatementReaders.{statement_by}
use Rattle.quel_grammar.specs.Next.{Next, Reading, IsBlank, IsNextOf, IsNext, IsGrammatical}
use Rattle.quel_grammar.specs.NextReader.{taken, bounded, next_by, next_of_tokens, next_of, next_at}
use Rattle.quel_grammar.proofs.Exact.{Alike, Reads}
use Rattle.quel_grammar.proofs.Exact.Alike.{nothing, begin}
use Rattle.quel_grammar.proofs.ExactStatements.{exact_statement}
use Rattle.quel_grammar.proofs.CompleteStatements.{read_statement}
use Rattle.quel_grammar.proofs.OneReading.{begins_whole, one_next}

-- what was read of tokens: a statement, which is their longest run that begins one, and the tokens behind it; or the tokens behind that run, which is no statement
abbrev pub IsParse : List Token → ReadOf Statement → Type 0
IsParse tokens (Ok x) = (front : List Token) × Longest tokens front x.1 × IsStatement front x.0
IsParse tokens (Err rest) = (front : List Token) × Longest tokens front rest × ((s : Statement) → IsStatement front s → ⊥)

-- whatever the reader keeps at one more token would be a whole statement's end
is_last : (n : ℕ) (front rest : List Token) (x : List Token → ReadOf Statement)
    → ((m : ℕ) → n ≤ m → (b : List Token) → Alike rest b → statement_by m (front ++ b) ≡ x b)
    → ((t : Token) (b : List Token) (s : Statement) → x (t ∷ b) ≡ Ok (s, []) → ⊥) → IsLast front rest
is_last n front [] x keeps never = tt
is_last n front (t ∷ a) x keeps never = λ more_.
    let whole : IsStatement (front ++ t ∷ more_.more) more_.statement = rw append_assoc at more_.is_one in
    let m = n + length (front ++ t ∷ more_.more) in
    never t more_.more more_.statement (sym (keeps m (omega arith) (t ∷ more_.more) begin) ∙ read_statement whole m (omega arith))

rest_of : ReadOf Statement → List Token
rest_of (Ok x) = x.1
rest_of (Err rest) = rest

not_done : (s u : Statement) (t : Token) (b : List Token) → ◌≡◌ {A = ReadOf Statement} (Ok (u, t ∷ b)) (Ok (s, [])) → ⊥
unfolding rest_of
not_done s u t b e = let f : t ∷ b ≡ [] = ap rest_of e in cc

-- what a statement's reader gives is the longest run that begins one
pub is_parse : (ts : List Token) (n : ℕ) → length ts < n → IsParse ts (statement_by n ts)
is_parse ts n le = parsed (statement_by n ts) (λ m up. (exact_statement n m up).at ts)
  where
    parsed : (x : ReadOf Statement) → ((m : ℕ) → n ≤ m → Reads IsStatement n (statement_by m) ts x) → IsParse ts x
    parsed (Ok x) all =
        let one = all n (omega arith) in
        let keeps : (m : ℕ) → n ≤ m → (b : List Token) → Alike x.1 b → statement_by m (one.front ++ b) ≡ Ok (x.0, b) = λ m up b alike.
        let here = all m up in
        let same : here.front ≡ one.front = append_cancel_right here.front one.front x.1 (sym here.same ∙ one.same) in
        rw (← same) (here.keeps (omega (arith, ap length here.same, length-append here.front x.1)) b alike) in (
          one.front,
          record {
            same = one.same;
            begins = begins_whole _ _ one.whole;
            last = is_last n one.front x.1 (λ b. Ok (x.0, b)) keeps
                (λ t b s e. not_done s x.0 t b e);
          },
          one.whole,
        )
    parsed (Err rest) all =
        let one = all n (omega arith) in
        let keeps : (m : ℕ) → n ≤ m → (b : List Token) → Alike rest b → statement_by m (one.front ++ b) ≡ Err b = λ m up b alike.
        let here = all m up in
        let same : here.front ≡ one.front = append_cancel_right here.front one.front rest (sym here.same ∙ one.same) in
        rw (← same) (here.keeps (omega (arith, ap length here.same, length-append here.front rest)) b alike) in (
          one.front,
          record {
            same = one.same;
            begins = record { more = one.begins.more; statement = one.begins.value; is_one = one.begins.whole };
            last = is_last n one.front rest
                (λ b. Err b) keeps (λ t b s e. absurd cc);
          },
          λ s p.
              let m = n + length one.front in
              let read : statement_by m one.front ≡ Ok (s, []) = read_statement p m (omega arith) in
              let stopped : statement_by m (one.front ++ []) ≡ Err [] = keeps m (omega arith) [] nothing in
              let stopped2 : statement_by m one.front ≡ Err [] = rw append-nil at stopped in
              cc,
        )

front_taken : (ts front rest : List Token) → ts ≡ front ++ rest → take (length ts - length rest) ts ≡ front
front_taken ts front rest e = let n : length ts - length rest ≡ length front = omega (arith, ap length e, length-append front rest) in rw (n, e) (take_front front rest)
  where
    take_front : (front rest : List Token) → take (length front) (front ++ rest) ≡ front
    take_front [] rest = refl
    take_front (t ∷ front) rest = ap (λ us. t ∷ us) (take_front front rest)

number_taken : (ts front rest : List Token) → ts ≡ front ++ rest → length ts - length rest ≡ length front
number_taken ts front rest e = omega (arith, ap length e, length-append front rest)

module _ (pieces : Pieces) (some : IsBlank pieces → ⊥) where
  next_bounded : (x : ReadOf Statement) → IsParse (tokens_of pieces) x → (front : List Token) → take (taken (tokens_of pieces) x) (tokens_of pieces) ≡ front → (o : Option ℕ)
      → first_past front ≡ o → IsNextOf pieces (bounded pieces x o)
  next_bounded (Ok x) p front e (Some number) past =
      let same : front ≡ p.0 = sym e ∙ front_taken (tokens_of pieces) p.0 x.1 p.1.same in
      record { front = p.0; rest = x.1; some = some; longest = p.1; number = number; stopped = inl (ap first_past (sym same) ∙ past); there = refl }
  next_bounded (Err rest) p front e (Some number) past =
      let same : front ≡ p.0 = sym e ∙ front_taken (tokens_of pieces) p.0 rest p.1.same in
      record { front = p.0; rest = rest; some = some; longest = p.1; number = number; stopped = inl (ap first_past (sym same) ∙ past); there = refl }
  next_bounded (Ok x) p front e None past =
      let same : front ≡ p.0 = sym e ∙ front_taken (tokens_of pieces) p.0 x.1 p.1.same in
      record {
        front = p.0;
        rest = x.1;
        longest = p.1;
        bounded = ap first_past (sym same) ∙ past;
        is_one = p.2;
        there = ap (end_of pieces)
            (number_taken (tokens_of pieces) p.0 x.1 p.1.same);
      }
  next_bounded (Err rest) p front e None past =
      let same : front ≡ p.0 = sym e ∙ front_taken (tokens_of pieces) p.0 rest p.1.same in
      record {
        front = p.0;
        rest = rest;
        some = some;
        longest = p.1;
        number = length p.0;
        stopped = inr (ap first_past (sym same) ∙ past, p.2, refl);
        there = ap
            (place_behind pieces) (number_taken (tokens_of pieces) p.0 rest p.1.same);
      }

  next_parsed : (x : ReadOf Statement) → IsParse (tokens_of pieces) x → IsNextOf pieces (next_by pieces x)
  next_parsed x p = next_bounded x p _ refl _ refl

  next_tokens : IsNextOf pieces (next_of_tokens pieces)
  unfolding next_of_tokens
  next_tokens = next_parsed _ (is_parse (tokens_of pieces) (suc (length (tokens_of pieces))) (omega arith))

some_token : (p : Placed) (ps : List Placed) (bad : Option ℕ) → IsBlank (record { placed = p ∷ ps; bad = bad }) → ⊥
some_token p ps bad blank = let e = blank.no_token in cc

bad_piece : (bad : ℕ) → IsBlank (record { placed = []; bad = Some bad }) → ⊥
bad_piece bad blank = let e = blank.no_bad in cc

next_pieces : (placed : List Placed) (bad : Option ℕ) → IsNextOf (record { placed = placed; bad = bad }) (next_of (record { placed = placed; bad = bad }) placed bad)
next_pieces (p ∷ ps) bad = next_tokens (record { placed = p ∷ ps; bad = bad }) (some_token p ps bad)
next_pieces [] (Some bad) = next_tokens (record { placed = []; bad = Some bad }) (bad_piece bad)
next_pieces [] None = record { no_token = refl; no_bad = refl }

-- what is computed may be read
pub reads : IsGrammatical next_at
unfolding next_at
reads text from = next_pieces (pieces_from text from).placed (pieces_from text from).bad

-- where this is computed, it is what is read
pub is_next : (text : List ℕ) (from : ℕ) (next : Next) → next_at text from ≡ next → IsNext text from next
is_next text from next e = rw (← e) (reads text from)

-- a reading that the grammar allows is the computed one
pub only_reading : (reading : Reading) → IsGrammatical reading → reading ≡ next_at
only_reading reading grammatical = λ i text from. one_next (pieces_from text from) (reading text from) (next_at text from) (grammatical text from) (reads text from) i
