-- Whom the stages serve, and what they have done from the start on.
use Rattle.std.proofs.Common.{◌≡◌, refl, sym, subst, inl, inr, ℕ, List, [], Result, Ok, Err, IfOk}
use Rattle.calculus.specs.Who.{Asker, asker_of}
use Rattle.net_core.specs.declared.fault.WorkFault.{WorkFault}
use Rattle.net_core.specs.declared.fault.WorkFault.TheVariants as faults
use Rattle.net_core.specs.declared.net.Net.{Net}
use Rattle.net_core.specs.Known.{Outside}
use Rattle.net_core.specs.Whole.{AllServe, start_shape}
use Rattle.net_session.proofs.Lists.{front_whole}
use Rattle.net_session.proofs.Making.{broke_for, made_for, nothing_made}
use Rattle.net_session.specs.Made.{Position, RanAll, RoundsDone, at_start, position}
use Rattle.net_session.specs.Rounds.{capacity_of}
use Rattle.network_meaning.specs.Calls.{Shape}
use Rattle.quel_grammar.proofs.Answered.{reads}
use Rattle.quel_grammar.specs.NextReader.{next_at}
use Rattle.quel_network.specs.Sorts.{User, quel_sorts}

-- a user of this name, for whom the grammar's reader reads
abbrev pub user_of : List ℕ → User
user_of name = record { asker = asker_of name; reading = next_at; grammatical = reads }

-- a network of these stages serves whom they all serve
pub all_serve : {A1 A2 A3 A4 E : Type 0} (result : Result (Net A1 A2 A3 A4) E) (one : A1) (two : A2) (three : A3) (four : A4) (s1 : A1 → User → Type 0) (s2 : A2 → User → Type 0) (s3 : A3 → User → Type 0) (s4 : A4 → User → Type 0) (whom : User → Type 0)
    → IfOk result (λ net. (net.one ≡ one) × (net.two ≡ two) × (net.three ≡ three) × (net.four ≡ four)) → ((user : User) → whom user → s1 one user) → ((user : User) → whom user → s2 two user) → ((user : User) → whom user → s3 three user) → ((user : User) → whom user → s4 four user)
    → IfOk result (λ net. (user : User) → whom user → AllServe s1 s2 s3 s4 net user)
all_serve (Ok net) one two three four s1 s2 s3 s4 whom (a, b, c, d) f g h i = λ user is. record {
  first = subst (λ x. s1 x user) (sym a) (f user is);
  second = subst (λ x. s2 x user) (sym b) (g user is);
  third = subst (λ x. s3 x user) (sym c) (h user is);
  fourth = subst (λ x. s4 x user) (sym d) (i user is);
}
all_serve (Err e) one two three four s1 s2 s3 s4 whom stages f g h i = tt

rounds_for : (serves serves' : User → Type 0) (capacity number : ℕ) (a b : Position) (result : Result (Unit {0}) WorkFault) → ((user : User) → serves user → serves' user) → RoundsDone serves' capacity number a b result → RoundsDone serves capacity number a b result
rounds_for serves serves' capacity number a b (Ok x) to (turns, first, m, ended) = (turns, first, made_for serves serves' capacity turns a b to m, ended)
rounds_for serves serves' capacity number a b (Err fault) to (inl (turns, first, s)) = inl (turns, first, broke_for serves serves' capacity turns a b fault to s)
rounds_for serves serves' capacity number a b (Err fault) to (inr (e, turns, first, m)) = inr (e, turns, first, made_for serves serves' capacity turns a b to m)

-- the rounds of stages that stand at the start
pub ran_all : (asker : Asker) (number : ℕ) (serves : User → Type 0) (capacity heard heard' : ℕ) (shape shape' : Shape quel_sorts) (o o' : Outside) (result : Result (Unit {0}) WorkFault) → shape ≡ start_shape → heard ≡ 0 → capacity ≡ capacity_of number → ((user : User) → user.asker ≡ asker → serves user)
    → RoundsDone serves capacity number (position shape o heard) (position shape' o' heard') result → RanAll asker number o o' result
ran_all asker number serves capacity heard heard' shape shape' o o' result at none room to done = (
  shape',
  heard',
  rounds_for (λ user. user.asker ≡ asker) serves (capacity_of number) number (at_start o) (position shape' o' heard') result to
      (subst (λ (s : Shape quel_sorts). RoundsDone serves (capacity_of number) number (position s o 0) (position shape' o' heard') result) at
      (subst (λ (h : ℕ). RoundsDone serves (capacity_of number) number (position shape o h) (position shape' o' heard') result) none
      (subst (λ (n : ℕ). RoundsDone serves n number (position shape o heard) (position shape' o' heard') result) room done))),
)

-- no memory for the stages
pub ran_none : (asker : Asker) (number : ℕ) (o : Outside) → RanAll asker number o o (Err faults.OutOfMemory)
ran_none asker number o = (start_shape, 0, inr (refl, [], (0, front_whole []), nothing_made (λ user. user.asker ≡ asker) (capacity_of number) (at_start o)))
