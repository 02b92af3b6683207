-- The statements that are left to run, and what it is that a step finishes one.
use Rattle.std.specs.Prelude.{◌≡◌, ◌⊎◌, ℕ, List, [], ◌∷◌, ◌++◌, Some, None}
use Rattle.std.specs.declared.option.Option.{Option}
use Rattle.network_meaning.specs.Sorts.{Sorts, Message, Finished}
use Rattle.network_meaning.specs.Sorts.{Message.cargo}
use Rattle.network_meaning.specs.Language.{Language, reply_bytes, db_after, shelf_after, followed_by}
use Rattle.network_meaning.specs.LocalSteps.{outcome_of, Room}
use Rattle.network_meaning.specs.MessageNetwork.{MessageNetwork}
use Rattle.network_meaning.specs.Network.{as_messages, Orderly}
use Rattle.network_meaning.specs.Calls.{join, Seen, Knows, Wrote}
use Rattle.network_meaning.specs.Held.{printed, held, begun, line_at, travels, batches, ranges_at, monitor_at, batch_rest, cargo_rest, rest}

-- the statements of what is left of the script; none where stage 1 has ended
abbrev pub script_left : {S : Sorts} → Language S → S.Db → S.Shelf → S.Ranges → Option S.Monitor → S.Script → List (Finished S)
script_left L db shelf ranges None script = []
script_left L db shelf ranges (Some m) script = L.script_statements db shelf ranges m script

-- those of what is left of the batch that was sent, and then those of the script
abbrev pub batch_left : {S : Sorts} → Language S → S.Db → S.Shelf → S.Ranges → List S.Batch → Option S.Monitor → S.Script → List (Finished S)
batch_left L db shelf ranges [] m script = script_left L db shelf ranges m script
batch_left L db shelf ranges (b ∷ bs) m script =
    let a = L.batch_runs db shelf ranges b in
    followed_by (batch_rest L a.db a.shelf a.ranges bs m script) (L.batch_statements db shelf ranges b) ++ batch_left L a.db a.shelf a.ranges bs m script

-- the statement that travels as a tree or a change, and then those of the batch and the script
abbrev pub cargo_left : {S : Sorts} → Language S → ℕ → S.Db → S.Shelf → S.Ranges → List (Message S) → List S.Batch → Option S.Monitor → S.Script → List (Finished S)
cargo_left L line db shelf ranges [] bs m script = batch_left L db shelf ranges bs m script
cargo_left L line db shelf ranges (cargo x ∷ xs) bs m script =
    let outcome = outcome_of L x db shelf in
    record {
      reply = reply_bytes L line outcome;
      db = db_after db outcome;
      later = cargo_rest L line (db_after db outcome) (shelf_after shelf outcome) ranges xs bs m script;
    }
    ∷ cargo_left L line (db_after db outcome) (shelf_after shelf outcome) ranges xs bs m script
cargo_left L line db shelf ranges (_ ∷ xs) bs m script = cargo_left L line db shelf ranges xs bs m script

-- by the ranges of stage 2; none where it has ended
abbrev pub left_from : {S : Sorts} → Language S → MessageNetwork S → Option S.Ranges → List (Finished S)
left_from L v None = []
left_from L v (Some ranges) = cargo_left L (line_at v.two) v.room.db v.room.shelf ranges (travels v) (batches L v) (monitor_at v.one) v.room.script

-- the statements that `rest` has still to run: that which travels, those of the batch, those of the script
abbrev pub statements_left : {S : Sorts} → Language S → MessageNetwork S → List (Finished S)
statements_left L v = left_from L v (ranges_at v.two)

-- a step that finishes no statement: all are left, and the database is as it was
pub record FinishesNone {S : Sorts} (L : Language S) (old new : MessageNetwork S) : Type 0 where
  pub left : statements_left L old ≡ statements_left L new
  pub database : new.room.db ≡ old.room.db

-- a step that finishes the first statement of those that are left: the database after it is the present one,
-- its reply, of which nothing is written yet, is what is held more than before, and the rest is what is printed behind it
pub record FinishesOne {S : Sorts} (L : Language S) (old new : MessageNetwork S) : Type 0 where
  pub finished : Finished S
  pub left : statements_left L old ≡ finished ∷ statements_left L new
  pub database : new.room.db ≡ finished.db
  pub reply : printed L (begun new.one) (held L new) ≡ printed L (begun old.one) (held L old) ++ finished.reply
  pub unwritten : new.room.out ≡ old.room.out
  pub later : rest L new ≡ finished.later

-- a step finishes one statement at most
abbrev pub Finishes : {S : Sorts} → Language S → MessageNetwork S → MessageNetwork S → Type 0
Finishes L old new = FinishesNone L old new ⊎ FinishesOne L old new

-- the database behind these statements, where it was this one before them
abbrev pub db_behind : {S : Sorts} → S.Db → List (Finished S) → S.Db
db_behind db [] = db
db_behind db (f ∷ fs) = db_behind f.db fs

-- steps that finish these statements, the first of those that are left, in order: the database behind them is the present one
pub record FinishesFront {S : Sorts} (L : Language S) (old new : MessageNetwork S) : Type 0 where
  pub finished : List (Finished S)
  pub left : statements_left L old ≡ finished ++ statements_left L new
  pub database : new.room.db ≡ db_behind old.room.db finished

-- a room is known, and from the network with room r to the one with this room a front of the statements is finished
pub record FinishedNow {S : Sorts} (L : Language S) (r : Room S) (old new : Seen S) : Type 0 where
  pub room : Room S
  pub known : Knows new.known room
  pub wrote : Wrote old.known new.known r room
  pub front : FinishesFront L (as_messages L (join old.shape r)) (as_messages L (join new.shape room))

-- from an orderly network with a room that is known: it is again known, and a front of the statements was finished
abbrev pub FinishesInOrder : {S : Sorts} → Language S → Seen S → Seen S → Type 0
FinishesInOrder {S} L old new = (r : Room S) → Knows old.known r → Orderly L (join old.shape r) → FinishedNow L r old new
