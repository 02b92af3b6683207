-- What is on its way to stage 1, and what is left of the session.
use Rattle.std.specs.Prelude.{ℕ, List, [], ◌∷◌, ◌++◌, Some, None, map}
use Rattle.std.specs.declared.option.Option.{Option}
use Rattle.network_meaning.specs.Sorts.{Sorts, Message}
use Rattle.network_meaning.specs.Sorts.{Cargo.tree, Said.shown, Said.replied, Message.text, Message.cargo, Message.said, Message.end, Message.quit}
use Rattle.network_meaning.specs.Language.{Language, reply_bytes, db_after, shelf_after}
use Rattle.network_meaning.specs.LocalSteps.{Mode, set_line, said_bytes, open_after, closing, outcome_of}
use Rattle.network_meaning.specs.LocalSteps.{Mode.reading, Mode.waiting, Mode.printing, Mode.idle2, Mode.parsing, Mode.passing2, Mode.working3, Mode.working4}
use Rattle.network_meaning.specs.MessageNetwork.{MessageNetwork}

-- the bytes of these messages, from a table that is begun or none: each table gets its closing line
abbrev pub printed : {S : Sorts} → Language S → Option S.Head → List (Message S) → List ℕ
printed L o [] = closing L o
printed L o (said s ∷ ms) = said_bytes L o s ++ printed L (open_after o s) ms
printed L o (end ∷ ms) = closing L o ++ printed L None ms
printed L o (text t ∷ ms) = printed L o ms
printed L o (cargo x ∷ ms) = printed L o ms
printed L o (quit ∷ ms) = printed L o ms

-- what stage 1 is to print next
abbrev pub kept : {S : Sorts} → Mode S → List (Message S)
kept (printing m o x) = x ∷ []
kept _ = []

-- the table that stage 1 has begun
abbrev pub begun : {S : Sorts} → Mode S → Option S.Head
begun (waiting m o) = o
begun (printing m o x) = o
begun _ = None

-- the line of the statement whose reply stage 2 waits for
abbrev pub line_at : {S : Sorts} → Mode S → ℕ
line_at (passing2 ranges line b) = line
line_at _ = 0

-- a refusal with this line, any other message as it is
abbrev pub with_line : {S : Sorts} → Language S → ℕ → Message S → Message S
with_line L line (said (replied r)) = said (replied (set_line L line r))
with_line L line (said (shown s)) = said (shown s)
with_line L line (text t) = text t
with_line L line (cargo x) = cargo x
with_line L line end = end
with_line L line quit = quit

-- in stage 1, F, stage 2, E, stage 3, D and stage 4
abbrev pub held : {S : Sorts} → Language S → MessageNetwork S → List (Message S)
held L v = kept v.one ++ (v.f ++ map (with_line L (line_at v.two)) (v.e ++ v.d))

-- what stage 4 is to carry out
abbrev pub at_four : {S : Sorts} → Mode S → List (Message S)
at_four (working4 x) = cargo x ∷ []
at_four _ = []

-- what stage 3 is to process
abbrev pub at_three : {S : Sorts} → Mode S → List (Message S)
at_three (working3 t) = cargo (tree t) ∷ []
at_three _ = []

-- what travels as a Tree or a Change, the foremost first
abbrev pub travels : {S : Sorts} → MessageNetwork S → List (Message S)
travels v = at_four v.four ++ (v.c ++ (at_three v.three ++ v.b))

-- what stage 2 has left of a batch
abbrev pub left_at_two : {S : Sorts} → Mode S → List S.Batch
left_at_two (parsing ranges b) = b ∷ []
left_at_two (passing2 ranges line b) = b ∷ []
left_at_two _ = []

-- the batches that these messages bring
abbrev pub starts : {S : Sorts} → Language S → List (Message S) → List S.Batch
starts L [] = []
starts L (text t ∷ ms) = L.start t ∷ starts L ms
starts L (_ ∷ ms) = starts L ms

-- what is left of the batch that was sent
abbrev pub batches : {S : Sorts} → Language S → MessageNetwork S → List S.Batch
batches L v = left_at_two v.two ++ starts L v.a

-- none, where stage 2 has ended
abbrev pub ranges_at : {S : Sorts} → Mode S → Option S.Ranges
ranges_at (idle2 ranges) = Some ranges
ranges_at (parsing ranges b) = Some ranges
ranges_at (passing2 ranges line b) = Some ranges
ranges_at _ = None

-- where the monitor stands; none, where stage 1 has ended
abbrev pub monitor_at : {S : Sorts} → Mode S → Option S.Monitor
monitor_at (reading m) = Some m
monitor_at (waiting m o) = Some m
monitor_at (printing m o x) = Some m
monitor_at _ = None

-- what is left of the script prints this
abbrev pub script_rest : {S : Sorts} → Language S → S.Db → S.Shelf → S.Ranges → Option S.Monitor → S.Script → List ℕ
script_rest L db shelf ranges None script = []
script_rest L db shelf ranges (Some m) script = L.script_bytes db shelf ranges m script

-- what is left of batches, and then of the script, prints this
abbrev pub batch_rest : {S : Sorts} → Language S → S.Db → S.Shelf → S.Ranges → List S.Batch → Option S.Monitor → S.Script → List ℕ
batch_rest L db shelf ranges [] m script = script_rest L db shelf ranges m script
batch_rest L db shelf ranges (b ∷ bs) m script =
    let a = L.batch_runs db shelf ranges b in
    a.bytes ++ batch_rest L a.db a.shelf a.ranges bs m script

-- what travels as a tree or a change, then what is left of batches and of the script, prints this
abbrev pub cargo_rest : {S : Sorts} → Language S → ℕ → S.Db → S.Shelf → S.Ranges → List (Message S) → List S.Batch → Option S.Monitor → S.Script → List ℕ
cargo_rest L line db shelf ranges [] bs m script = batch_rest L db shelf ranges bs m script
cargo_rest L line db shelf ranges (cargo x ∷ xs) bs m script =
    reply_bytes L line (outcome_of L x db shelf) ++ cargo_rest L line (db_after db (outcome_of L x db shelf)) (shelf_after shelf (outcome_of L x db shelf)) ranges xs bs m script
cargo_rest L line db shelf ranges (_ ∷ xs) bs m script = cargo_rest L line db shelf ranges xs bs m script

-- the output from the present database and these ranges on; none where stage 2 has ended
abbrev pub rest_from : {S : Sorts} → Language S → MessageNetwork S → Option S.Ranges → List ℕ
rest_from L v None = []
rest_from L v (Some ranges) = cargo_rest L (line_at v.two) v.room.db v.room.shelf ranges (travels v) (batches L v) (monitor_at v.one) v.room.script

-- the output from the present database on: of the statement that travels, of the batch, of the script
abbrev pub rest : {S : Sorts} → Language S → MessageNetwork S → List ℕ
rest L v = rest_from L v (ranges_at v.two)

-- the bytes written, then those of what is held, then the rest
abbrev pub total : {S : Sorts} → Language S → MessageNetwork S → List ℕ
total L v = v.room.out ++ (printed L (begun v.one) (held L v) ++ rest L v)
