-- What a piece of work that fails may have written: a front of its bytes.
use Rattle.std.specs.Prelude.{◌≡◌, ℕ, List, [], ◌++◌}
use Rattle.network_meaning.specs.Sorts.{Sorts, Message.said, Message.end}
use Rattle.network_meaning.specs.Language.{Language}
use Rattle.network_meaning.specs.LocalSteps.{Mode, Room, closing, said_bytes}
use Rattle.network_meaning.specs.LocalSteps.{Mode.reading, Mode.printing}

-- the bytes that a piece of work writes: those of what is read, of what is said, or of the end of a batch; none at any other mode
abbrev pub work_bytes : {S : Sorts} → Language S → Mode S → Room S → List ℕ
work_bytes L (reading m) room = (L.read m room.script room.shelf).bytes
work_bytes L (printing m o (said s)) room = said_bytes L o s
work_bytes L (printing m o end) room = closing L o
work_bytes L _ room = []

-- the bytes begin with this front
abbrev pub Begins : List ℕ → List ℕ → Type 0
Begins front bytes = (rest : List ℕ) × (bytes ≡ front ++ rest)
