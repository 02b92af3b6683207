-- The first tokens of pieces, as a loop cuts them.
use Rattle.std.proofs.Common.{◌≡◌, ℕ, zero, suc, ◌+◌, ◌-◌, ◌≤◌, ◌<◌, List, [], ◌∷◌, ◌++◌, map, length, drop, Option, Some, None, refl, sym, ap, ◌∙◌, arith, append_assoc, length-drop, ◌^◌}
use Rattle.quel_grammar.specs.declared.token.Token.{Token}
use Rattle.quel_grammar.specs.declared.token.Piece.{Piece}
use Rattle.quel_grammar.specs.declared.token.Piece.TheVariants as pieces
use Rattle.quel_grammar.specs.Lexer.{piece_at}
use Rattle.quel_grammar.specs.Pieces.{Placed, Pieces, with_piece, pieces_behind, pieces_from, bad_or, begin_or}
use Rattle.std.specs.Prelude.{slice_get}
use Rattle.std.proofs.lemmas.List.{length-map}
use Rattle.quel_lexer.specs.declared.lexed.Span.{Span}
use Rattle.quel_lexer.specs.declared.lexed.Stop.{Stop}
use Rattle.quel_lexer.specs.declared.lexed.Stop.TheVariants as stops
use Rattle.quel_lexer.specs.declared.lexed.Lexed.{Lexed}
use Rattle.quel_lexer.specs.Lexed.{span_of, IsStop, IsFront, first_begin, stop_or}

-- the pieces that stand at this place
abbrev pub left : ℕ → List ℕ → Pieces
left at rest = pieces_behind 0 at rest

-- so far these tokens were cut, and this is left
pub record Cut (all : Pieces) (tokens : List Token) (spans : List Span) (at : ℕ) (rest : List ℕ) : Type 0 where
  pub front : List Placed
  pub same : all.placed ≡ front ++ (left at rest).placed
  pub tokens_are : tokens ≡ map (λ p. p.token) front
  pub spans_are : spans ≡ map span_of front
  pub bad : all.bad ≡ (left at rest).bad

pub starts : (text : List ℕ) (from : ℕ) → Cut (pieces_from text from) [] [] from (drop from text)
unfolding pieces_from
starts text from = record { front = []; same = refl; tokens_are = refl; spans_are = refl; bad = refl }

-- the bytes that a piece has taken are passed
passed : (taken at : ℕ) (bs : List ℕ) → pieces_behind taken at bs ≡ left (at + taken) (drop taken bs)
unfolding pieces_behind
passed zero at bs = let e : at + 0 ≡ at = omega arith in rw e refl
passed (suc taken) at [] = refl
passed (suc taken) at (b ∷ bs) = let e : at + 1 + taken ≡ at + suc taken = omega arith in passed taken (at + 1) bs ∙ ap (λ n. left n (drop taken bs)) e

-- the pieces behind the one at the front
abbrev with_front : Option (Piece × ℕ) → ℕ → List ℕ → Pieces
with_front o at bs = elim o [ None ↦ record { placed = []; bad = Some at } | Some p ↦ with_piece p.0 at p.1 (pieces_behind (p.1 - 1) (at + 1) bs) ]

front_is : (at : ℕ) (b : ℕ) (bs : List ℕ) (o : Option (Piece × ℕ)) → piece_at (b ∷ bs) ≡ o → left at (b ∷ bs) ≡ with_front o at bs
unfolding pieces_behind
front_is at b bs o e = ap (λ o. with_front o at bs) e

-- one step: what is left begins with this piece
step : (at len : ℕ) (rest : List ℕ) (piece : Piece) → 0 < len → len ≤ length rest → piece_at rest ≡ Some (piece, len) → left at rest ≡ with_piece piece at len (left (at + len) (drop len rest))
step at len [] piece lt le e = absurd (omega arith)
step at zero (b ∷ bs) piece lt le e = absurd (omega arith)
step at (suc n) (b ∷ bs) piece lt le e =
    let f : at + 1 + n ≡ at + suc n = omega arith in
    let one : suc n - 1 ≡ n = omega arith in
    front_is at b bs (Some (piece, suc n)) e ∙ ap (λ k. with_piece piece at (suc n) (pieces_behind k (at + 1) bs)) one
    ∙ ap (with_piece piece at (suc n)) (passed n (at + 1) bs ∙ ap (λ m. left m (drop n bs)) f)

pub passes : (all : Pieces) (tokens : List Token) (spans : List Span) (at len : ℕ) (rest : List ℕ) → Cut all tokens spans at rest
    → 0 < len → len ≤ length rest → piece_at rest ≡ Some (pieces.White, len) → Cut all tokens spans (at + len) (drop len rest)
passes all tokens spans at len rest cut lt le e =
    let s = step at len rest pieces.White lt le e in
    record {
      front = cut.front;
      same = cut.same ∙ ap (λ p. cut.front ++ p.placed) s;
      tokens_are = cut.tokens_are;
      spans_are = cut.spans_are;
      bad = cut.bad ∙ ap (λ p. p.bad) s;
    }

map_last : {A B : Type 0} (f : A → B) (front : List A) (x : A) → map f (front ++ x ∷ []) ≡ map f front ++ f x ∷ []
map_last f [] x = refl
map_last f (y ∷ front) x = ap (λ ys. f y ∷ ys) (map_last f front x)

pub takes : (all : Pieces) (tokens : List Token) (spans : List Span) (at len : ℕ) (rest : List ℕ) (token : Token) → Cut all tokens spans at rest
    → 0 < len → len ≤ length rest → piece_at rest ≡ Some (pieces.Token token, len)
    → Cut all (tokens ++ token ∷ []) (spans ++ record { begin = at; end = at + len } ∷ []) (at + len) (drop len rest)
takes all tokens spans at len rest token cut lt le e =
    let s = step at len rest (pieces.Token token) lt le e in
    let placed : Placed = record { token = token; begin = at; end = at + len } in
    record {
      front = cut.front ++ placed ∷ [];
      same = cut.same ∙ ap (λ p. cut.front ++ p.placed) s ∙ sym (append_assoc cut.front (placed ∷ []) (left (at + len) (drop len rest)).placed);
      tokens_are = ap (λ ts. ts ++ token ∷ []) cut.tokens_are ∙ sym (map_last (λ p. p.token) cut.front placed);
      spans_are = ap (λ ss. ss ++ record { begin = at; end = at + len } ∷ []) cut.spans_are ∙ sym (map_last span_of cut.front placed);
      bad = cut.bad ∙ ap (λ p. p.bad) s;
    }

-- nothing is left
pub nothing_left : (at : ℕ) (rest : List ℕ) → rest ≡ [] → left at rest ≡ record { placed = []; bad = None }
unfolding pieces_behind
nothing_left at rest e = ap (left at) e

-- what is left begins with nothing that is read
pub bad_left : (at : ℕ) (rest : List ℕ) → 0 < length rest → piece_at rest ≡ None → left at rest ≡ record { placed = []; bad = Some at }
bad_left at [] lt e = absurd (omega arith)
bad_left at (b ∷ bs) lt e = front_is at b bs None e

-- what was cut, where this is left and so it is said to stop
pub is_front : (all : Pieces) (lexed : Lexed) (at : ℕ) (rest : List ℕ) → Cut all lexed.tokens.items lexed.spans.items at rest → IsStop (left at rest).placed all lexed.stop → IsFront all lexed
is_front all lexed at rest cut stop = record {
  front = cut.front;
  later = (left at rest).placed;
  same = cut.same;
  tokens = cut.tokens_are;
  spans = cut.spans_are;
  stopped = stop;
}

pub at_end : (all : Pieces) (tokens : List Token) (spans : List Span) (at : ℕ) (rest : List ℕ) → Cut all tokens spans at rest → rest ≡ [] → IsStop (left at rest).placed all stops.End
at_end all tokens spans at rest cut e = let f = nothing_left at rest e in (ap (λ p. p.placed) f, cut.bad ∙ ap (λ p. p.bad) f)

pub at_bad : (all : Pieces) (tokens : List Token) (spans : List Span) (at : ℕ) (rest : List ℕ) → Cut all tokens spans at rest → 0 < length rest → piece_at rest ≡ None → IsStop (left at rest).placed all (stops.Bad at)
at_bad all tokens spans at rest cut lt e = let f = bad_left at rest lt e in (ap (λ p. p.placed) f, cut.bad ∙ ap (λ p. p.bad) f)

pub behind_fits : (text : List ℕ) (from : ℕ) → from ≤ 2 ^ 64 - 1 → length text ≤ 2 ^ 64 - 1 → from + length (drop from text) ≤ 2 ^ 64 - 1
behind_fits text from le fits = omega (arith, length-drop from text)

-- the place of the first token, or of what begins none
abbrev pub offset_or : ℕ → Stop → Option ℕ → ℕ
offset_or at stop (Some begin) = begin
offset_or at stop None = stop_or at stop

offset_of : (all : Pieces) (at : ℕ) (stop : Stop) (front later : List Placed) → all.placed ≡ front ++ later → IsStop later all stop → (stop ≡ stops.More → length front ≡ 1)
    → offset_or at stop (first_begin (map span_of front)) ≡ begin_or (bad_or at all.bad) (slice_get all.placed 0)
offset_of all at stop (p ∷ front) later e is_stop full = rw e refl
offset_of all at stops.More [] later e is_stop full = absurd (omega (arith, full refl))
offset_of all at stops.End [] later e is_stop full = rw (e, is_stop.0, is_stop.1) refl
offset_of all at (stops.Bad bad) [] later e is_stop full = rw (e, is_stop.0, is_stop.1) refl

pub offset : (all : Pieces) (lexed : Lexed) (at : ℕ) → IsFront all lexed → (lexed.stop ≡ stops.More → length lexed.tokens.items ≡ 1)
    → offset_or at lexed.stop (first_begin lexed.spans.items) ≡ begin_or (bad_or at all.bad) (slice_get all.placed 0)
offset all lexed at front full = rw front.spans (offset_of all at lexed.stop front.front front.later front.same front.stopped (λ e. sym (length-map front.front _) ∙ ap length (sym front.tokens) ∙ full e))
