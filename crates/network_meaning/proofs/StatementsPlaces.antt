-- The replies of the statements that are left stand in the rest.
use Rattle.std.proofs.Common.{ℕ, List, [], ◌∷◌, ◌++◌, Some, None, refl, append_assoc}
use Rattle.std.specs.declared.option.Option.{Option}
use Rattle.network_meaning.specs.Sorts.{Sorts, Message, Finished}
use Rattle.network_meaning.specs.Sorts.{Message.text, Message.cargo, Message.said, Message.end, Message.quit}
use Rattle.network_meaning.specs.Language.{Language, Stand, followed_by, db_after, shelf_after}
use Rattle.network_meaning.specs.Laws.{Laws}
use Rattle.network_meaning.specs.LocalSteps.{outcome_of}
use Rattle.network_meaning.specs.MessageNetwork.{MessageNetwork}
use Rattle.network_meaning.specs.Held.{batch_rest, cargo_rest, script_rest, rest, rest_from, ranges_at, travels, batches, monitor_at, line_at}
use Rattle.network_meaning.specs.Statements.{script_left, batch_left, cargo_left, left_from, statements_left}

-- what stands in these bytes stands in them with others behind, and what stands in the others comes after it
stand_append : {S : Sorts} (xs ys : List ℕ) (fs gs : List (Finished S)) → Stand xs fs → Stand ys gs → Stand (xs ++ ys) (followed_by ys fs ++ gs)
stand_append xs ys [] [] h k = tt
stand_append xs ys [] (g ∷ gs) h (ahead, e, k) = (xs ++ ahead, rw e (rw (append_assoc xs ahead (g.reply ++ g.later)) refl), k)
stand_append xs ys (f ∷ fs) gs (ahead, e, h) k = (ahead, rw e (rw (append_assoc ahead (f.reply ++ f.later) ys, append_assoc f.reply f.later ys) refl), stand_append f.later ys fs gs h k)

script_stands : {S : Sorts} (L : Language S) (laws : Laws L) (db : S.Db) (shelf : S.Shelf) (ranges : S.Ranges) (m : Option S.Monitor) (script : S.Script) → Stand (script_rest L db shelf ranges m script) (script_left L db shelf ranges m script)
script_stands L laws db shelf ranges None script = tt
script_stands L laws db shelf ranges (Some m) script = laws.script_places db shelf ranges m script

batch_stands : {S : Sorts} (L : Language S) (laws : Laws L) (db : S.Db) (shelf : S.Shelf) (ranges : S.Ranges) (bs : List S.Batch) (m : Option S.Monitor) (script : S.Script) →
    Stand (batch_rest L db shelf ranges bs m script) (batch_left L db shelf ranges bs m script)
batch_stands L laws db shelf ranges [] m script = script_stands L laws db shelf ranges m script
batch_stands L laws db shelf ranges (b ∷ bs) m script =
    let a = L.batch_runs db shelf ranges b in
    stand_append a.bytes (batch_rest L a.db a.shelf a.ranges bs m script) (L.batch_statements db shelf ranges b) (batch_left L a.db a.shelf a.ranges bs m script) (laws.batch_places db shelf ranges b) (batch_stands L laws a.db a.shelf a.ranges bs m script)

cargo_stands : {S : Sorts} (L : Language S) (laws : Laws L) (line : ℕ) (db : S.Db) (shelf : S.Shelf) (ranges : S.Ranges) (ms : List (Message S)) (bs : List S.Batch) (m : Option S.Monitor) (script : S.Script) →
    Stand (cargo_rest L line db shelf ranges ms bs m script) (cargo_left L line db shelf ranges ms bs m script)
cargo_stands L laws line db shelf ranges [] bs m script = batch_stands L laws db shelf ranges bs m script
cargo_stands L laws line db shelf ranges (cargo x ∷ ms) bs m script =
    let outcome = outcome_of L x db shelf in
    ([], refl, cargo_stands L laws line (db_after db outcome) (shelf_after shelf outcome) ranges ms bs m script)
cargo_stands L laws line db shelf ranges (text t ∷ ms) bs m script = cargo_stands L laws line db shelf ranges ms bs m script
cargo_stands L laws line db shelf ranges (said s ∷ ms) bs m script = cargo_stands L laws line db shelf ranges ms bs m script
cargo_stands L laws line db shelf ranges (end ∷ ms) bs m script = cargo_stands L laws line db shelf ranges ms bs m script
cargo_stands L laws line db shelf ranges (quit ∷ ms) bs m script = cargo_stands L laws line db shelf ranges ms bs m script

from_stands : {S : Sorts} (L : Language S) (laws : Laws L) (v : MessageNetwork S) (ranges : Option S.Ranges) → Stand (rest_from L v ranges) (left_from L v ranges)
from_stands L laws v None = tt
from_stands L laws v (Some ranges) = cargo_stands L laws (line_at v.two) v.room.db v.room.shelf ranges (travels v) (batches L v) (monitor_at v.one) v.room.script

pub left_stands : {S : Sorts} (L : Language S) (laws : Laws L) (v : MessageNetwork S) → Stand (rest L v) (statements_left L v)
left_stands L laws v = from_stands L laws v (ranges_at v.two)
