-- Where the session ends, beside what it prints: its database, its shelf, and whether a command ended it.
use Rattle.std.specs.Prelude.{◌≡◌, List, [], ◌∷◌, Some, None}
use Rattle.std.specs.declared.option.Option.{Option}
use Rattle.network_meaning.specs.Sorts.{Sorts, Message, SessionEnd}
use Rattle.network_meaning.specs.Sorts.{Message.cargo}
use Rattle.network_meaning.specs.Language.{HasStopped, Language, db_after, shelf_after}
use Rattle.network_meaning.specs.LocalSteps.{outcome_of}
use Rattle.network_meaning.specs.MessageNetwork.{MessageNetwork}
use Rattle.network_meaning.specs.Held.{travels, batches, ranges_at, monitor_at}

-- what is left of the script ends so; where stage 1 has ended, the session has come to this end
abbrev pub ScriptEnds : {S : Sorts} → Language S → S.Db → S.Shelf → S.Ranges → Option S.Monitor → S.Script → SessionEnd S → Type 0
ScriptEnds L db shelf ranges None script e = HasStopped L db shelf script e
ScriptEnds L db shelf ranges (Some m) script e = L.script_end db shelf ranges m script ≡ e

-- what is left of batches, and then of the script, ends so
abbrev pub BatchEnds : {S : Sorts} → Language S → S.Db → S.Shelf → S.Ranges → List S.Batch → Option S.Monitor → S.Script → SessionEnd S → Type 0
BatchEnds L db shelf ranges [] m script e = ScriptEnds L db shelf ranges m script e
BatchEnds L db shelf ranges (b ∷ bs) m script e =
    let a = L.batch_runs db shelf ranges b in
    BatchEnds L a.db a.shelf a.ranges bs m script e

-- what travels as a tree or a change, and then what is left of batches and of the script, ends so
abbrev pub CargoEnds : {S : Sorts} → Language S → S.Db → S.Shelf → S.Ranges → List (Message S) → List S.Batch → Option S.Monitor → S.Script → SessionEnd S → Type 0
CargoEnds L db shelf ranges [] bs m script e = BatchEnds L db shelf ranges bs m script e
CargoEnds L db shelf ranges (cargo x ∷ xs) bs m script e =
    CargoEnds L (db_after db (outcome_of L x db shelf)) (shelf_after shelf (outcome_of L x db shelf)) ranges xs bs m script e
CargoEnds L db shelf ranges (_ ∷ xs) bs m script e = CargoEnds L db shelf ranges xs bs m script e

-- by the ranges of stage 2; where it has ended, the session has come to this end
abbrev pub EndsFrom : {S : Sorts} → Language S → MessageNetwork S → Option S.Ranges → SessionEnd S → Type 0
EndsFrom L v None e = HasStopped L v.room.db v.room.shelf v.room.script e
EndsFrom L v (Some ranges) e = CargoEnds L v.room.db v.room.shelf ranges (travels v) (batches L v) (monitor_at v.one) v.room.script e

-- from the present database and shelf on, the session ends so: behind the statement that travels, the batch, and the script
abbrev pub Ends : {S : Sorts} → Language S → MessageNetwork S → SessionEnd S → Type 0
Ends L v e = EndsFrom L v (ranges_at v.two) e

-- however the session was to end from the first network on, it ends so from the second on
abbrev pub KeepsEnd : {S : Sorts} → Language S → MessageNetwork S → MessageNetwork S → Type 0
KeepsEnd {S} L old new = (e : SessionEnd S) → Ends L old e → Ends L new e
