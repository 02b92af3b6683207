-- Messages that have a spelling: not each tree has one, but all that is on its way.
use Rattle.std.specs.Prelude.{◌≡◌, ℕ, List, [], ◌∷◌, Some, ⊤}
use Rattle.network_meaning.specs.Sorts.{Sorts, Message, Next.found}
use Rattle.network_meaning.specs.Language.{Language}
use Rattle.network_meaning.specs.Frames.{kind_of}
use Rattle.network_meaning.specs.LocalSteps.{Mode, Mode.passing2}
use Rattle.network_meaning.specs.MessageNetwork.{MessageNetwork}

-- the message has a spelling: it is read again from its kind and its bytes
abbrev pub Spelled : {S : Sorts} → Language S → Message S → Type 0
Spelled L m = L.message_of (kind_of m) (L.payload m) ≡ Some m

-- each of these messages is spelled
abbrev pub EachSpelled : {S : Sorts} → Language S → List (Message S) → Type 0
EachSpelled L [] = ⊤
EachSpelled L (m ∷ ms) = Spelled L m × EachSpelled L ms

-- a line that stage 2 may set: that of a statement of some batch
pub record IsLine {S : Sorts} (L : Language S) (line : ℕ) : Type 0 where
  pub batch : S.Batch
  pub statement : S.Statement
  pub later : S.Batch
  pub is : L.next batch ≡ found statement line later

-- where stage 2 waits for a reply, the line that it is to set is one of a statement
abbrev pub LineAt : {S : Sorts} → Language S → Mode S → Type 0
LineAt L (passing2 ranges line b) = IsLine L line
LineAt L _ = ⊤

-- each message on its way is spelled, and the line that stage 2 is to set is one of a statement
pub record IsSpelled {S : Sorts} (L : Language S) (v : MessageNetwork S) : Type 0 where
  pub a : EachSpelled L v.a
  pub b : EachSpelled L v.b
  pub c : EachSpelled L v.c
  pub d : EachSpelled L v.d
  pub e : EachSpelled L v.e
  pub f : EachSpelled L v.f
  pub first_left : EachSpelled L v.first_left
  pub last_right : EachSpelled L v.last_right
  pub line : LineAt L v.two
