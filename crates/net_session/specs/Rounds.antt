-- The turns of the memory mode, by a number.
use Rattle.std.specs.Prelude.{ℕ, zero, suc, ◌+◌, ◌%◌, ◌/◌, List, [], ◌++◌, map, replicate}
use Rattle.std.specs.List.{concat}
use Rattle.fault_io.specs.Known.{IsFront}
use Rattle.turns.specs.Rounds.{next_number, order_of, times_of}

-- the turns of the round with this number: each stage in its order, so often one after the other
abbrev pub round_of : ℕ → List ℕ
round_of y = concat (map (λ stage. replicate (times_of y) stage) (order_of (y / 65536 % 24)))

-- the turns of so many rounds behind a number
abbrev pub turns_of : ℕ → ℕ → List ℕ
turns_of zero x = []
turns_of (suc rounds) x = round_of (next_number x) ++ turns_of rounds (next_number x)

-- how many frames a pipe holds
abbrev pub capacity_of : ℕ → ℕ
capacity_of x = 1 + x % 8

-- these are the first turns of the rounds behind a number
abbrev pub AreFirst : ℕ → List ℕ → Type 0
AreFirst number turns = (rounds : ℕ) × IsFront turns (turns_of rounds number)
