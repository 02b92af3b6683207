-- The functions that the equation is about.
use Rattle.std.specs.Prelude.{◌≡◌, ℕ, Bool, true, false, List, [], ◌∷◌, ◌++◌, ⊤}
use Rattle.std.specs.declared.option.Option.{Option}
use Rattle.network_meaning.specs.Sorts.{Sorts, Message, Table, Outcome, Meaning, Next, Event, Read, After, Finished, SessionEnd, Kind}
use Rattle.network_meaning.specs.Sorts.{Outcome.tables, Outcome.made, Outcome.refuses, Meaning.names, Meaning.objects, Meaning.runs, Next.no_more, Next.bad, Next.found, Event.goes_on, Event.sends, Event.leaves}

-- what a language means and how it is spelled: statements, batches, scripts, trees and the heads of what they ask for, changes, printed bytes, the bytes of a message, and the message that bytes of a kind are read as
pub record Language (S : Sorts) : Type 1 where
  pub meaning : S.Db → S.Shelf → S.Ranges → S.Statement → Meaning S
  pub lined : ℕ → S.Refusal → S.Refusal
  pub next : S.Batch → Next S
  pub start : S.Text → S.Batch
  pub read : S.Monitor → S.Script → S.Shelf → Read S
  pub kind : S.Tree → Kind
  pub heads : S.Tree → List S.Head
  pub outcome : S.Tree → S.Db → S.Shelf → Outcome S
  pub Fits : S.Tree → S.Db → Type 0
  pub laid : S.Change → S.Db → S.Db
  pub IsLawful : S.Change → S.Db → Type 0
  pub head_bytes : S.Head → List ℕ
  pub row_bytes : S.Head → S.Row → List ℕ
  pub rule_bytes : S.Head → List ℕ
  pub row_fits : S.Head → S.Row → Bool
  pub done_bytes : List ℕ
  pub refusal_bytes : S.Refusal → List ℕ
  pub payload : Message S → List ℕ
  pub message_of : ℕ → List ℕ → Option (Message S)
  pub batch_runs : S.Db → S.Shelf → S.Ranges → S.Batch → After S
  pub script_bytes : S.Db → S.Shelf → S.Ranges → S.Monitor → S.Script → List ℕ
  -- the statements that run, in order: each that `next` finds, also where stage 2 settles or refuses it, and no syntax refusal
  pub batch_statements : S.Db → S.Shelf → S.Ranges → S.Batch → List (Finished S)
  pub script_statements : S.Db → S.Shelf → S.Ranges → S.Monitor → S.Script → List (Finished S)
  -- where the session ends, and whether nothing is left of a script
  pub script_end : S.Db → S.Shelf → S.Ranges → S.Monitor → S.Script → SessionEnd S
  pub is_over : S.Script → Bool

-- the rows of a table, a line for each
abbrev pub lines_of : {S : Sorts} → Language S → S.Head → List S.Row → List ℕ
lines_of L h [] = []
lines_of L h (r ∷ rs) = L.row_bytes h r ++ lines_of L h rs

-- head and rule, a line per row, and the closing rule
abbrev pub tables_bytes : {S : Sorts} → Language S → List (Table S) → List ℕ
tables_bytes L [] = []
tables_bytes L (t ∷ ts) = L.head_bytes t.top ++ (lines_of L t.top t.rows ++ (L.rule_bytes t.top ++ tables_bytes L ts))

-- the printed bytes of a reply: its tables, the line for done, or a refusal with its line
abbrev pub reply_bytes : {S : Sorts} → Language S → ℕ → Outcome S → List ℕ
reply_bytes L line (tables ts) = tables_bytes L ts
reply_bytes L line (made db shelf) = L.done_bytes
reply_bytes L line (refuses r) = L.refusal_bytes (L.lined line r)

-- the heads of these tables
abbrev pub tops : {S : Sorts} → List (Table S) → List S.Head
tops [] = []
tops (t ∷ ts) = t.top ∷ tops ts

-- the database behind an outcome
abbrev pub db_after : {S : Sorts} → S.Db → Outcome S → S.Db
db_after db (tables ts) = db
db_after db (made db' shelf') = db'
db_after db (refuses r) = db

-- the shelf behind an outcome
abbrev pub shelf_after : {S : Sorts} → S.Shelf → Outcome S → S.Shelf
shelf_after shelf (tables ts) = shelf
shelf_after shelf (made db' shelf') = shelf'
shelf_after shelf (refuses r) = shelf

-- the same, with these bytes printed before
abbrev pub after_bytes : {S : Sorts} → List ℕ → After S → After S
after_bytes bytes a = record { db = a.db; shelf = a.shelf; ranges = a.ranges; bytes = bytes ++ a.bytes }

-- the rest of a batch, after the meaning of its first statement
abbrev pub after_meaning : {S : Sorts} → Language S → S.Db → S.Shelf → S.Ranges → ℕ → S.Batch → Meaning S → After S
after_meaning L db shelf ranges line b (names ranges') = L.batch_runs db shelf ranges' b
after_meaning L db shelf ranges line b (objects r) = after_bytes (L.refusal_bytes (L.lined line r)) (L.batch_runs db shelf ranges b)
after_meaning L db shelf ranges line b (runs outcome) = after_bytes (reply_bytes L line outcome) (L.batch_runs (db_after db outcome) (shelf_after shelf outcome) ranges b)

-- the rest of a batch, from its next statement on: none, a syntax refusal, or a statement and what follows it
abbrev pub after_next : {S : Sorts} → Language S → S.Db → S.Shelf → S.Ranges → Next S → After S
after_next L db shelf ranges no_more = record { db = db; shelf = shelf; ranges = ranges; bytes = [] }
after_next L db shelf ranges (bad r) = record { db = db; shelf = shelf; ranges = ranges; bytes = L.refusal_bytes r }
after_next L db shelf ranges (found s line b) = after_meaning L db shelf ranges line b (L.meaning db shelf ranges s)

-- the output from where the monitor stands, after an event
abbrev pub after_event : {S : Sorts} → Language S → S.Db → S.Ranges → Read S → Event S → List ℕ
after_event L db ranges got goes_on = got.bytes ++ L.script_bytes db got.shelf ranges got.monitor got.script
after_event L db ranges got (sends t) =
    let a = L.batch_runs db got.shelf ranges (L.start t) in
    got.bytes ++ (a.bytes ++ L.script_bytes a.db a.shelf a.ranges got.monitor got.script)
after_event L db ranges got leaves = got.bytes

-- these statements, where these bytes are printed behind them
abbrev pub followed_by : {S : Sorts} → List ℕ → List (Finished S) → List (Finished S)
followed_by bytes [] = []
followed_by bytes (f ∷ fs) = record { reply = f.reply; db = f.db; later = f.later ++ bytes } ∷ followed_by bytes fs

-- the replies of these statements stand in these bytes, one behind the other, and behind each stands what it says
abbrev pub Stand : {S : Sorts} → List ℕ → List (Finished S) → Type 0
Stand bytes [] = ⊤
Stand bytes (f ∷ fs) = (ahead : List ℕ) × (bytes ≡ ahead ++ (f.reply ++ f.later)) × Stand f.later fs

-- the statements of the rest of a batch, after the meaning of its first: this one has run, and then come the others.
-- One that settles names has no reply, and leaves the database as it was, as a refused one does
abbrev pub statements_after_meaning : {S : Sorts} → Language S → S.Db → S.Shelf → S.Ranges → ℕ → S.Batch → Meaning S → List (Finished S)
statements_after_meaning L db shelf ranges line b (names ranges') =
    record { reply = []; db = db; later = (L.batch_runs db shelf ranges' b).bytes } ∷ L.batch_statements db shelf ranges' b
statements_after_meaning L db shelf ranges line b (objects r) =
    record { reply = L.refusal_bytes (L.lined line r); db = db; later = (L.batch_runs db shelf ranges b).bytes } ∷ L.batch_statements db shelf ranges b
statements_after_meaning L db shelf ranges line b (runs outcome) =
    record { reply = reply_bytes L line outcome; db = db_after db outcome; later = (L.batch_runs (db_after db outcome) (shelf_after shelf outcome) ranges b).bytes }
    ∷ L.batch_statements (db_after db outcome) (shelf_after shelf outcome) ranges b

-- the end of a batch and a syntax refusal are no statements
abbrev pub statements_after_next : {S : Sorts} → Language S → S.Db → S.Shelf → S.Ranges → Next S → List (Finished S)
statements_after_next L db shelf ranges no_more = []
statements_after_next L db shelf ranges (bad r) = []
statements_after_next L db shelf ranges (found s line b) = statements_after_meaning L db shelf ranges line b (L.meaning db shelf ranges s)

-- the statements from where the monitor stands, after an event
abbrev pub statements_after_event : {S : Sorts} → Language S → S.Db → S.Ranges → Read S → Event S → List (Finished S)
statements_after_event L db ranges got goes_on = L.script_statements db got.shelf ranges got.monitor got.script
statements_after_event L db ranges got (sends t) =
    let a = L.batch_runs db got.shelf ranges (L.start t) in
    followed_by (L.script_bytes a.db a.shelf a.ranges got.monitor got.script) (L.batch_statements db got.shelf ranges (L.start t)) ++ L.script_statements a.db a.shelf a.ranges got.monitor got.script
statements_after_event L db ranges got leaves = []

-- the session has come to this end: these are its database and its shelf, and unless a command ended it nothing is left of the script
pub record HasStopped {S : Sorts} (L : Language S) (db : S.Db) (shelf : S.Shelf) (script : S.Script) (e : SessionEnd S) : Type 0 where
  pub database : db ≡ e.db
  pub files : shelf ≡ e.shelf
  pub read : e.quit ≡ false → L.is_over script ≡ true

-- from where the monitor stands, after an event, the session ends so
abbrev pub EndsAfter : {S : Sorts} → Language S → S.Db → S.Ranges → Read S → Event S → SessionEnd S → Type 0
EndsAfter L db ranges got goes_on e = L.script_end db got.shelf ranges got.monitor got.script ≡ e
EndsAfter L db ranges got (sends t) e =
    let a = L.batch_runs db got.shelf ranges (L.start t) in
    L.script_end a.db a.shelf a.ranges got.monitor got.script ≡ e
EndsAfter L db ranges got leaves e = HasStopped L db got.shelf got.script e
