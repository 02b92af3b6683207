-- The turn: who may work on the database and the shelf.
use Rattle.std.specs.Prelude.{ℕ, suc, Bool, true, false, List, [], ◌∷◌, if◌then◌else◌}
use Rattle.network_meaning.specs.Sorts.{Sorts, Message}
use Rattle.network_meaning.specs.Sorts.{Said.shown, Said.replied, Message.text, Message.cargo, Message.said, Message.end, Message.quit}
use Rattle.network_meaning.specs.LocalSteps.{Act, Mode}
use Rattle.network_meaning.specs.LocalSteps.{Mode.reading, Mode.waiting, Mode.printing, Mode.idle2, Mode.parsing, Mode.passing2, Mode.idle3, Mode.working3, Mode.passing3, Mode.idle4, Mode.working4, Mode.ended}
use Rattle.network_meaning.specs.MessageNetwork.{MessageNetwork, StageNumber, StageNumber.first, StageNumber.second, StageNumber.third, StageNumber.fourth}

-- stage 1 keeps the turn when it has ended; no other stage does
abbrev pub keeps_turn : StageNumber → Bool
keeps_turn first = true
keeps_turn second = false
keeps_turn third = false
keeps_turn fourth = false

-- a stage has the turn while it reads, prints the end of a batch, parses, processes or carries out
abbrev pub has_turn : {S : Sorts} → StageNumber → Mode S → Bool
has_turn k (reading m) = true
has_turn k (waiting m o) = false
has_turn k (printing m o (text t)) = false
has_turn k (printing m o (cargo x)) = false
has_turn k (printing m o (said s)) = false
has_turn k (printing m o end) = true
has_turn k (printing m o quit) = false
has_turn k (idle2 ranges) = false
has_turn k (parsing ranges b) = true
has_turn k (passing2 ranges line b) = false
has_turn k idle3 = false
has_turn k (working3 t) = true
has_turn k passing3 = false
has_turn k idle4 = false
has_turn k (working4 x) = true
has_turn k ended = keeps_turn k

-- to the right a batch, a tree and a change carry the turn
abbrev pub carries_right : {S : Sorts} → Message S → Bool
carries_right (text t) = true
carries_right (cargo x) = true
carries_right (said s) = false
carries_right end = false
carries_right quit = false

-- to the left, up to stage 2, a reply and an end carry it, and what is shown doesn't
abbrev pub carries_left : {S : Sorts} → Message S → Bool
carries_left (text t) = false
carries_left (cargo x) = false
carries_left (said (shown s)) = false
carries_left (said (replied r)) = true
carries_left end = true
carries_left quit = false

-- from stage 2 to stage 1 only the end of a batch carries it
abbrev pub carries_back : {S : Sorts} → Message S → Bool
carries_back (text t) = false
carries_back (cargo x) = false
carries_back (said s) = false
carries_back end = true
carries_back quit = false

-- one more, where the test holds
abbrev pub also : Bool → ℕ → ℕ
also test n = if test then suc n else n

-- so many, and those of these messages that carry the turn
abbrev pub carriers : {S : Sorts} → (Message S → Bool) → List (Message S) → ℕ → ℕ
carriers test [] n = n
carriers test (m ∷ ms) n = also (test m) (carriers test ms n)

-- at how many places the turn is: at stages, and in messages on their way
abbrev pub turns : {S : Sorts} → MessageNetwork S → ℕ
turns v =
    also (has_turn first v.one) (also (has_turn second v.two) (also (has_turn third v.three) (also (has_turn fourth v.four)
    (carriers carries_right v.a (carriers carries_right v.b (carriers carries_right v.c (carriers carries_left v.d (carriers carries_left v.e (carriers carries_back v.f 0)))))))))

-- what stage k gives to its left and carries the turn
abbrev pub carries_from : {S : Sorts} → StageNumber → Message S → Bool
carries_from second m = carries_back m
carries_from _ m = carries_left m

-- at how many places the turn is behind an act of stage k: at the stage, and in the messages that it gives
abbrev pub turns_behind : {S : Sorts} → StageNumber → Act S → ℕ
turns_behind k act = also (has_turn k act.mode) (carriers (carries_from k) act.left (carriers carries_right act.right 0))

-- the stage that works at this mode
abbrev pub worker : {S : Sorts} → Mode S → StageNumber
worker (parsing ranges b) = second
worker (working3 t) = third
worker (working4 x) = fourth
worker _ = first
