-- What the reader of statements answers, and how it tells.
use Rattle.std.specs.Prelude.{◌≡◌, ℕ, suc, nat_lt, Bool, true, false, ◌||◌, ◌==◌, is_some, not, slice_get, List, [], ◌∷◌, length, take, Option, Some, None, Result, Ok, Err}
use Rattle.calculus.specs.declared.statement.Statement.{Statement}
use Rattle.quel_grammar.specs.declared.token.Token.{Token}
use Rattle.quel_grammar.specs.Next.{Next as Reads, line_at}
use Rattle.quel_grammar.specs.Next.Next.{Nothing, Read, Syntax}
use Rattle.quel_grammar.specs.NextReader.{taken}
use Rattle.quel_grammar.specs.Reading.{Read as ReadOf}
use Rattle.quel_grammar.specs.StatementReaders.{statement_by}
use Rattle.quel_lexer.specs.declared.lexed.Span.{Span}
use Rattle.quel_lexer.specs.declared.lexed.Stop.{Stop}
use Rattle.quel_lexer.specs.declared.lexed.Stop.TheVariants as stops
use Rattle.quel_lexer.specs.declared.lexed.Lexed.{Lexed}
use Rattle.quel_lexer.specs.Lexed.{stop_or}
use Rattle.quel_parse.specs.declared.next.ParseFault.{ParseFault}
use Rattle.quel_parse.specs.declared.next.ParseFault.TheVariants as faults
use Rattle.quel_parse.specs.declared.next.Next.{Next}
use Rattle.quel_parse.specs.declared.next.Next.TheVariants as next
use Rattle.quel_parse.specs.declared.next.Front.{Front}

-- this was answered of a text, of which this is what is read
abbrev pub Answers : List ℕ → Reads → Result (Option (Statement × ℕ)) ParseFault → Type 0
Answers text reads (Ok None) = reads ≡ Nothing
Answers text reads (Ok (Some x)) = reads ≡ Read x.0 x.1
Answers text reads (Err (faults.Syntax line at)) = (reads ≡ Syntax at) × (line ≡ line_at text at)
Answers text reads (Err faults.OutOfMemory) = Unit {0}

-- ---- how the reader tells; no public clause says this

-- what is read
abbrev pub seen : Next Statement → Reads
seen next.Nothing = Nothing
seen (next.Read s end) = Read s end
seen (next.Syntax at) = Syntax at

-- the value that was read
abbrev pub value_of : {A : Type 0} → ReadOf A → Option A
value_of (Ok x) = Some x.0
value_of (Err rest) = None

-- this was read of the tokens, as if no more followed
pub record IsFrontRead (tokens : List Token) (front : Front Statement) : Type 0 where
  pub value : front.value ≡ value_of (statement_by (suc (length tokens)) tokens)
  pub number : front.taken ≡ taken tokens (statement_by (suc (length tokens)) tokens)

-- where the last of these ends; where there is none, this place
abbrev pub last_end : ℕ → List Span → ℕ
last_end at [] = at
last_end at (s ∷ ss) = last_end s.end ss

-- where this token begins; where there is none, where what follows all tokens stands
abbrev pub place_in : Lexed → Option Span → ℕ
place_in lexed (Some s) = s.begin
place_in lexed None = stop_or (last_end 0 lexed.spans.items) lexed.stop

-- what is read, where this value was read of so many tokens, and none of them passes a bound
abbrev pub unbounded : {A : Type 0} → Lexed → Option A → ℕ → Next A
unbounded lexed (Some v) n = next.Read v (last_end 0 (take n lexed.spans.items))
unbounded lexed None n = next.Syntax (place_in lexed (slice_get lexed.spans.items n))

-- what is read, where this was read of the tokens and the first one that passes a bound has this number
abbrev pub answer_in : {A : Type 0} → Lexed → Front A → Option ℕ → Next A
answer_in lexed front (Some number) = next.Syntax (place_in lexed (slice_get lexed.spans.items number))
answer_in lexed front None = unbounded lexed front.value front.taken

-- more may follow
abbrev pub is_more : Stop → Bool
is_more stops.More = true
is_more stops.End = false
is_more (stops.Bad at) = false

-- more tokens would change nothing
abbrev pub is_sure : ℕ → Option ℕ → Lexed → Bool
is_sure n past lexed = nat_lt n (length lexed.tokens.items) || is_some past || not (is_more lexed.stop)

-- of so many tokens and what follows them there is nothing
abbrev pub blank_at : ℕ → Stop → Bool
blank_at n stops.End = n == 0
blank_at n stops.More = false
blank_at n (stops.Bad at) = false

-- only white space and comments were there
abbrev pub is_blank : Lexed → Bool
is_blank lexed = blank_at (length lexed.tokens.items) lexed.stop
