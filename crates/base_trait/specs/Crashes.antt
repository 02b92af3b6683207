-- What a crash leaves below a base.
use Rattle.std.specs.Prelude.{◌≡◌, ◌⊎◌, ◌≤◌, ℕ, Bool, IsTrue, Option, Some}
use Rattle.calculus.specs.Database.{Db}

-- every image that a crash leaves now denotes this database
abbrev pub AllDenote : ℕ → (ℕ → Option Db → Type 0) → Db → Type 0
AllDenote clock left_since db = (o : Option Db) → left_since clock o → o ≡ Some db

-- The clock doesn't fall, and a crash since a moment of before leaves what it might leave then, or what has P.
pub record LeavesBut (P : Option Db → Type 0) (before now : ℕ) (left_before left_now : ℕ → Option Db → Type 0) : Type 0 where
  pub later : before ≤ now
  pub each : (t : ℕ) (o : Option Db) → t ≤ before → left_now t o → left_before t o ⊎ P o

-- It was asked and no more: a crash leaves nothing else; and where the base was ready it is, and the clock stands.
pub record OnlyAsked (before now : ℕ) (ready_before ready_now : Bool) (left_before left_now : ℕ → Option Db → Type 0) : Type 0 where
  pub nothing_else : LeavesBut (λ o. ⊥) before now left_before left_now
  pub quiet : IsTrue ready_before → (now ≡ before) × IsTrue ready_now
