-- Sessions on a small database, one after the other, written short.
use Rattle.std.specs.Prelude.{ℕ, List, [], ◌∷◌, ◌++◌}
use Rattle.std.specs.List.{flat_map}
use Rattle.calculus.specs.Who.{asker_of}
use Rattle.quel_grammar.specs.Next.{Reading}
use Rattle.quel_meaning.specs.State.{State}
use Rattle.quel_meaning.specs.Session.{Session, session, output}

-- lines, each with its newline
abbrev pub lines : List (List ℕ) → List ℕ
lines ls = flat_map (λ l. l ++ 10 ∷ []) ls

-- an empty database of this administrator, no file, and no range variable
abbrev pub empty : List ℕ → State
empty dba = record { db = record { dba = dba; relations = []; indexes = []; views = []; rules = []; permits = [] }; shelf = []; ranges = [] }

-- a user and a script
abbrev pub Turn : Type 0
Turn = List ℕ × List ℕ

-- the session of a turn, which begins without range variables
abbrev pub taken : Reading → State → Turn → Session
taken reading state turn = session reading (asker_of turn.0) (record state { ranges = [] }) turn.1

-- what each of these turns prints, each on what the one before left
abbrev pub printed : Reading → State → List Turn → List (List ℕ)
printed reading state [] = []
printed reading state (turn ∷ turns) = let first = taken reading state turn in output first ∷ printed reading first.state turns
