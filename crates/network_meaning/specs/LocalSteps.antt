-- What each stage does next, by its own state alone.
use Rattle.std.specs.Prelude.{◌≡◌, ℕ, Bool, true, false, List, [], ◌∷◌, ◌++◌, Some, None, map}
use Rattle.std.specs.declared.option.Option.{Option}
use Rattle.network_meaning.specs.Sorts.{Sorts, Cargo, Shown, Reply, Said, Message, Table, Outcome, Meaning, Next, Event, Kind}
use Rattle.network_meaning.specs.Sorts.{Cargo.tree, Cargo.change, Shown.head, Shown.row, Reply.done, Reply.refused, Said.shown, Said.replied, Message.text, Message.cargo, Message.said, Message.end, Message.quit, Outcome.tables, Outcome.made, Outcome.refuses, Meaning.names, Meaning.objects, Meaning.runs, Next.no_more, Next.bad, Next.found, Event.goes_on, Event.sends, Event.leaves, Kind.answer, Kind.update, Kind.utility}
use Rattle.network_meaning.specs.Language.{Language}

-- the local states of all four stages, with what they keep
pub data Mode (S : Sorts) : Type 0 where
  reading : S.Monitor → Mode S
  waiting : S.Monitor → Option S.Head → Mode S
  printing : S.Monitor → Option S.Head → Message S → Mode S
  idle2 : S.Ranges → Mode S
  parsing : S.Ranges → S.Batch → Mode S
  passing2 : S.Ranges → ℕ → S.Batch → Mode S
  idle3 : Mode S
  working3 : S.Tree → Mode S
  passing3 : Mode S
  idle4 : Mode S
  working4 : Cargo S → Mode S
  ended : Mode S

-- what a stage does next: take from a side, give to one, work, or nothing any more
pub data Want : Type 0 where
  take_left : Want
  take_right : Want
  give_left : Want
  give_right : Want
  work : Want
  none : Want

-- what a stage at this mode does, where it has nothing to give
abbrev pub want_of : {S : Sorts} → Mode S → Want
want_of (reading m) = work
want_of (waiting m o) = take_right
want_of (printing m o x) = work
want_of (idle2 ranges) = take_left
want_of (parsing ranges b) = work
want_of (passing2 ranges line b) = take_right
want_of idle3 = take_left
want_of (working3 t) = work
want_of passing3 = take_right
want_of idle4 = take_left
want_of (working4 x) = work
want_of ended = none

-- what an act leaves: the next state, and the messages that it gives
pub record Act (S : Sorts) : Type 0 where
  pub mode : Mode S
  pub left : List (Message S)
  pub right : List (Message S)

-- it goes to this mode and gives nothing
abbrev pub turns_to : {S : Sorts} → Mode S → Act S
turns_to mode = record { mode = mode; left = []; right = [] }

-- it goes to this mode and gives these messages to the left
abbrev pub says : {S : Sorts} → Mode S → List (Message S) → Act S
says mode ms = record { mode = mode; left = ms; right = [] }

-- it goes to this mode and gives this message to the right
abbrev pub hands : {S : Sorts} → Mode S → Message S → Act S
hands mode m = record { mode = mode; left = []; right = m ∷ [] }

-- a row may stand here: behind a head that it fits
abbrev pub row_due : {S : Sorts} → Language S → Option S.Head → S.Row → Bool
row_due L None r = false
row_due L (Some h) r = L.row_fits h r

-- a row stands behind the head of its table
abbrev pub is_due : {S : Sorts} → Language S → Option S.Head → Said S → Bool
is_due L o (shown (head h)) = true
is_due L o (shown (row r)) = row_due L o r
is_due L o (replied r) = true

-- the act, where the message is due
abbrev pub if_due : {S : Sorts} → Bool → Act S → Option (Act S)
if_due true act = Some act
if_due false act = None

-- a refusal with this line
abbrev pub set_line : {S : Sorts} → Language S → ℕ → Reply S → Reply S
set_line L line done = done
set_line L line (refused r) = refused (L.lined line r)

-- the tree asks for work of the utilities
abbrev pub is_utility : Kind → Bool
is_utility utility = true
is_utility _ = false

-- what goes to stage 4 is a change, or a tree of a utility
abbrev pub goes_to_four : {S : Sorts} → Language S → Cargo S → Bool
goes_to_four L (tree t) = is_utility (L.kind t)
goes_to_four L (change c) = true

-- what a stage does with a message that it takes; nothing where the message is unlawful
abbrev pub takes : {S : Sorts} → Language S → Mode S → Message S → Option (Act S)
takes L (waiting m o) (said s) = if_due (is_due L o s) (turns_to (printing m o (said s)))
takes L (waiting m o) end = Some (turns_to (printing m o end))
takes L (idle2 ranges) (text t) = Some (turns_to (parsing ranges (L.start t)))
takes L (idle2 ranges) quit = Some (hands ended quit)
takes L (passing2 ranges line b) (said (shown s)) = Some (says (passing2 ranges line b) (said (shown s) ∷ []))
takes L (passing2 ranges line b) (said (replied r)) = Some (says (parsing ranges b) (said (replied (set_line L line r)) ∷ []))
takes L (passing2 ranges line b) end = Some (turns_to (parsing ranges b))
takes L idle3 (cargo (tree t)) = Some (turns_to (working3 t))
takes L idle3 quit = Some (hands ended quit)
takes L passing3 (said (replied r)) = Some (says idle3 (said (replied r) ∷ []))
takes L idle4 (cargo x) = if_due (goes_to_four L x) (turns_to (working4 x))
takes L idle4 quit = Some (turns_to ended)
takes L _ _ = None

-- a stage at this mode takes messages that may have More frames: it waits for more than a reply
abbrev pub may_go_on : {S : Sorts} → Mode S → Bool
may_go_on (waiting m o) = true
may_go_on (idle2 ranges) = true
may_go_on (passing2 ranges line b) = true
may_go_on idle3 = true
may_go_on idle4 = true
may_go_on _ = false

-- the bytes of a message, with the closing rule of a table before any message but a row
abbrev pub closing : {S : Sorts} → Language S → Option S.Head → List ℕ
closing L None = []
closing L (Some h) = L.rule_bytes h

-- the line of a row in its table
abbrev pub row_line : {S : Sorts} → Language S → Option S.Head → S.Row → List ℕ
row_line L None r = []
row_line L (Some h) r = L.row_bytes h r

-- the bytes of what is said, with the closing rule of the table before, unless a row follows
abbrev pub said_bytes : {S : Sorts} → Language S → Option S.Head → Said S → List ℕ
said_bytes L o (shown (head h)) = closing L o ++ L.head_bytes h
said_bytes L o (shown (row r)) = row_line L o r
said_bytes L o (replied done) = closing L o ++ L.done_bytes
said_bytes L o (replied (refused r)) = closing L o ++ L.refusal_bytes r

-- the table that is begun behind what is said
abbrev pub open_after : {S : Sorts} → Option S.Head → Said S → Option S.Head
open_after o (shown (head h)) = Some h
open_after o (shown (row r)) = o
open_after o (replied r) = None

-- what the stages work on: the database, the shelf, the rest of the script and the bytes written
pub record Room (S : Sorts) : Type 0 where
  pub db : S.Db
  pub shelf : S.Shelf
  pub script : S.Script
  pub out : List ℕ

-- what stage 1 does when it has read: it reads on, sends a batch, or quits
abbrev pub read_act : {S : Sorts} → S.Monitor → Event S → Act S
read_act m goes_on = turns_to (reading m)
read_act m (sends t) = hands (waiting m None) (text t)
read_act m leaves = hands ended quit

-- head and rows of each table
abbrev pub all_shown : {S : Sorts} → List (Table S) → List (Shown S)
all_shown [] = []
all_shown (t ∷ ts) = head t.top ∷ (map row t.rows ++ all_shown ts)

-- what a tree or a change comes to
abbrev pub outcome_of : {S : Sorts} → Language S → Cargo S → S.Db → S.Shelf → Outcome S
outcome_of L (tree t) db shelf = L.outcome t db shelf
outcome_of L (change c) db shelf = made (L.laid c db) shelf

-- a tree fits the database, or a change is lawful for it
abbrev pub IsFit : {S : Sorts} → Language S → Cargo S → S.Db → Type 0
IsFit L (tree t) db = L.Fits t db
IsFit L (change c) db = L.IsLawful c db

-- stage 2, after the meaning of the next statement: the tree is any fit one with that meaning
abbrev pub Checks : {S : Sorts} → Language S → Room S → S.Ranges → ℕ → S.Batch → Meaning S → Act S → Type 0
Checks L room ranges line b (names ranges') act = act ≡ turns_to (parsing ranges' b)
Checks L room ranges line b (objects r) act = act ≡ says (parsing ranges b) (said (replied (refused (L.lined line r))) ∷ [])
Checks {S} L room ranges line b (runs outcome) act = (t : S.Tree) × L.Fits t room.db × (L.outcome t room.db room.shelf ≡ outcome) × (act ≡ hands (passing2 ranges line b) (cargo (tree t)))

-- stage 2, at the next statement: the end of the batch, a syntax refusal, or a statement that is checked
abbrev pub Parses : {S : Sorts} → Language S → Room S → S.Ranges → Next S → Act S → Type 0
Parses L room ranges no_more act = act ≡ says (idle2 ranges) (end ∷ [])
Parses L room ranges (bad r) act = act ≡ says (idle2 ranges) (said (replied (refused r)) ∷ end ∷ [])
Parses L room ranges (found s line b) act = Checks L room ranges line b (L.meaning room.db room.shelf ranges s) act

-- stage 3, by the kind of the tree and what it comes to
abbrev pub Processes : {S : Sorts} → Language S → Room S → S.Tree → Kind → Outcome S → Act S → Type 0
Processes L room t answer (tables ts) act = act ≡ says idle3 (map (λ s. said (shown s)) (all_shown ts) ++ end ∷ [])
Processes L room t answer (refuses r) act = act ≡ says idle3 (said (replied (refused r)) ∷ [])
Processes {S} L room t update (made db shelf) act = (c : S.Change) × L.IsLawful c room.db × (L.laid c room.db ≡ db) × (room.shelf ≡ shelf) × (act ≡ hands passing3 (cargo (change c)))
Processes L room t update (refuses r) act = act ≡ says idle3 (said (replied (refused r)) ∷ [])
Processes L room t utility outcome act = act ≡ hands passing3 (cargo (tree t))
Processes L room t _ _ act = ⊥

-- stage 4
abbrev pub CarriesOut : {S : Sorts} → Room S → Outcome S → Act S → Room S → Type 0
CarriesOut room (made db shelf) act room' = (act ≡ says idle4 (said (replied done) ∷ [])) × (room' ≡ record { db = db; shelf = shelf; script = room.script; out = room.out })
CarriesOut room (refuses r) act room' = (act ≡ says idle4 (said (replied (refused r)) ∷ [])) × (room' ≡ room)
CarriesOut room (tables ts) act room' = ⊥

-- the room with these bytes written
abbrev pub written : {S : Sorts} → Room S → List ℕ → Room S
written room bytes = record { db = room.db; shelf = room.shelf; script = room.script; out = room.out ++ bytes }

-- one piece of work on the room
abbrev pub Works : {S : Sorts} → Language S → Mode S → Room S → Act S → Room S → Type 0
Works L (reading m) room act room' =
    let got = L.read m room.script room.shelf in
    (act ≡ read_act got.monitor got.event) × (room' ≡ record { db = room.db; shelf = got.shelf; script = got.script; out = room.out ++ got.bytes })
Works L (printing m o (said s)) room act room' = (act ≡ turns_to (waiting m (open_after o s))) × (room' ≡ written room (said_bytes L o s))
Works L (printing m o end) room act room' = (act ≡ turns_to (reading m)) × (room' ≡ written room (closing L o))
Works L (parsing ranges b) room act room' = Parses L room ranges (L.next b) act × (room' ≡ room)
Works L (working3 t) room act room' = Processes L room t (L.kind t) (L.outcome t room.db room.shelf) act × (room' ≡ room)
Works L (working4 x) room act room' = CarriesOut room (outcome_of L x room.db room.shelf) act room'
Works L _ room act room' = ⊥
