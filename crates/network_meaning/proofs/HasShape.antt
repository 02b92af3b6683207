-- A piece of work of the network on what is fit has its shape.
use Rattle.std.proofs.Common.{◌≡◌, ℕ, Bool, true, false, List, [], ◌∷◌, refl, ap, subst, sym}
use Rattle.frame_codec.specs.declared.frame.Frame.{Frame}
use Rattle.network_meaning.specs.Sorts.{Sorts, Outcome, Kind, Next, Meaning, Event}
use Rattle.network_meaning.specs.Sorts.{Cargo.tree, Cargo.change, Message.text, Message.cargo, Message.said, Message.end, Message.quit, Outcome.tables, Outcome.made, Outcome.refuses, Meaning.names, Meaning.objects, Meaning.runs, Next.no_more, Next.bad, Next.found, Event.goes_on, Event.sends, Event.leaves, Kind.answer, Kind.update, Kind.utility}
use Rattle.network_meaning.specs.Language.{Language}
use Rattle.network_meaning.specs.Laws.{Laws}
use Rattle.network_meaning.specs.LocalSteps.{Mode, Want, Act, Room, Works, Parses, Checks, Processes, CarriesOut, all_shown, read_act}
use Rattle.network_meaning.specs.LocalSteps.{Want.take_left, Want.take_right, Want.give_left, Want.give_right, Want.work, Want.none}
use Rattle.network_meaning.specs.LocalSteps.{Mode.reading, Mode.waiting, Mode.printing, Mode.idle2, Mode.parsing, Mode.passing2, Mode.idle3, Mode.working3, Mode.passing3, Mode.idle4, Mode.working4, Mode.ended}
use Rattle.network_meaning.specs.Lawful.{FitWork}
use Rattle.network_meaning.specs.MessageNetwork.{StageNumber, StageNumber.first, StageNumber.second, StageNumber.third, StageNumber.fourth}
use Rattle.network_meaning.specs.Network.{Between, Network, between, put_between, want, is_stuck, Orderly, FrameFromLeft, FrameFromRight, FrameToLeft, FrameToRight, StepsBy, Steps, NetworkStep, StepsUnlessBlocked, StepsUnlessBlockedBy}
use Rattle.network_meaning.specs.Calls.{join}
use Rattle.network_meaning.specs.OrderlyShape.{shape_of}
use Rattle.network_meaning.specs.Spelled.{IsLine}
use Rattle.network_meaning.specs.WorkShape.{SendsSpelled, CheckShape, ParseShape, ProcessShape, UtilityShape, WorkShape, WorksInShape}
use Rattle.network_meaning.specs.WorkShape.{CheckShape.names as shape_names, CheckShape.objects as shape_objects, CheckShape.runs as shape_runs, AnswerShape.tables as shape_tables, AnswerShape.refuses as answer_refused, UpdateShape.changes, UpdateShape.refuses as update_refused, UtilityShape.does, UtilityShape.refuses as utility_refused}
use Rattle.network_meaning.specs.Turn.{also, has_turn, turns_behind, worker}
use Rattle.network_meaning.proofs.NothingUnlawful.{fit_work}
use Rattle.network_meaning.proofs.Turn.{shown_left}

sends_spelled : {S : Sorts} (L : Language S) (laws : Laws L) (m : S.Monitor) (room : Room S) (event : Event S) → (L.read m room.script room.shelf).event ≡ event → SendsSpelled L event
sends_spelled L laws m room goes_on e = tt
sends_spelled L laws m room (sends t) e = laws.text_spelled m room.script room.shelf t e
sends_spelled L laws m room leaves e = tt

checked_shape : {S : Sorts} (L : Language S) (laws : Laws L) (room : Room S) (ranges : S.Ranges) (s : S.Statement) (line : ℕ) (b : S.Batch) (meaning : Meaning S) (act : Act S) →
    IsLine L line → L.meaning room.db room.shelf ranges s ≡ meaning → Checks L room ranges line b meaning act → CheckShape L ranges line b act
checked_shape L laws room ranges s line b (names ranges') act is e j = shape_names ranges' j
checked_shape L laws room ranges s line b (objects r) act is e j = shape_objects r (laws.line_spelled line r is (laws.objection_spelled room.db room.shelf ranges s r e)) j
checked_shape L laws room ranges s line b (runs outcome) act is e (t, fits, comes, j) = shape_runs t (laws.tree_spelled t room.db fits) j

parsed_shape : {S : Sorts} (L : Language S) (laws : Laws L) (room : Room S) (ranges : S.Ranges) (old : S.Batch) (next : Next S) (act : Act S) → L.next old ≡ next → Parses L room ranges next act → ParseShape L ranges next act
parsed_shape L laws room ranges old no_more act e j = j
parsed_shape L laws room ranges old (bad r) act e j = j
parsed_shape L laws room ranges old (found s line b) act e j =
    checked_shape L laws room ranges s line b (L.meaning room.db room.shelf ranges s) act (record { batch = old; statement = s; later = b; is = e }) refl j

processed_shape : {S : Sorts} (L : Language S) (laws : Laws L) (room : Room S) (t : S.Tree) (kind : Kind) (outcome : Outcome S) (act : Act S) →
    L.Fits t room.db → L.outcome t room.db room.shelf ≡ outcome → Processes L room t kind outcome act → ProcessShape L t kind act
processed_shape L laws room t answer (tables ts) act fits e j = shape_tables ts (laws.heads t room.db room.shelf ts e) (laws.rows t room.db room.shelf ts fits e) (laws.tables_spelled t room.db room.shelf ts fits e) j
processed_shape L laws room t answer (refuses r) act fits e j = answer_refused (record { refusal = r; spelled = laws.outcome_spelled t room.db room.shelf r fits e; is = j })
processed_shape L laws room t answer (made db shelf) act fits e j = absurd j
processed_shape L laws room t update (tables ts) act fits e j = absurd j
processed_shape L laws room t update (refuses r) act fits e j = update_refused (record { refusal = r; spelled = laws.outcome_spelled t room.db room.shelf r fits e; is = j })
processed_shape L laws room t update (made db shelf) act fits e (c, lawful, laid, same, j) = changes c (laws.change_spelled c room.db lawful) j
processed_shape L laws room t utility outcome act fits e j = (laws.tree_spelled t room.db fits, j)

carried_shape : {S : Sorts} (L : Language S) (laws : Laws L) (room : Room S) (t : S.Tree) (outcome : Outcome S) (act : Act S) (room' : Room S) →
    L.Fits t room.db → L.outcome t room.db room.shelf ≡ outcome → CarriesOut room outcome act room' → UtilityShape L act
carried_shape L laws room t (tables ts) act room' fits e j = absurd j
carried_shape L laws room t (made db shelf) act room' fits e j = does j.0
carried_shape L laws room t (refuses r) act room' fits e j = utility_refused (record { refusal = r; spelled = laws.outcome_spelled t room.db room.shelf r fits e; is = j.0 })

-- work on what is fit has the shape of its mode
pub has_shape : {S : Sorts} (L : Language S) (laws : Laws L) (mode : Mode S) (room : Room S) (act : Act S) (room' : Room S) → FitWork L mode room.db → Works L mode room act room' → WorkShape L mode act
has_shape L laws (reading m) room act room' fit w =
    let got = L.read m room.script room.shelf in
    record { monitor = got.monitor; event = got.event; spelled = sends_spelled L laws m room got.event refl; is = w.0 }
has_shape L laws (printing m o (said s)) room act room' fit w = w.0
has_shape L laws (printing m o end) room act room' fit w = w.0
has_shape L laws (parsing ranges b) room act room' fit w = parsed_shape L laws room ranges b (L.next b) act refl w.0
has_shape L laws (working3 t) room act room' fit w = processed_shape L laws room t (L.kind t) (L.outcome t room.db room.shelf) act fit refl w.0
has_shape L laws (working4 (tree t)) room act room' fit w = carried_shape L laws room t (L.outcome t room.db room.shelf) act room' fit.0 refl w
has_shape L laws (working4 (change c)) room act room' fit w = w.0
has_shape L laws (printing m o (text t)) room act room' fit w = absurd w
has_shape L laws (printing m o (cargo x)) room act room' fit w = absurd w
has_shape L laws (printing m o quit) room act room' fit w = absurd w
has_shape L laws (waiting m o) room act room' fit w = absurd w
has_shape L laws (idle2 ranges) room act room' fit w = absurd w
has_shape L laws (passing2 ranges line b) room act room' fit w = absurd w
has_shape L laws idle3 room act room' fit w = absurd w
has_shape L laws passing3 room act room' fit w = absurd w
has_shape L laws idle4 room act room' fit w = absurd w
has_shape L laws ended room act room' fit w = absurd w

-- ---- the turn

reads_on : {S : Sorts} (m : S.Monitor) (event : Event S) → turns_behind first (read_act m event) ≡ 1
reads_on m goes_on = refl
reads_on m (sends t) = refl
reads_on m leaves = refl

parsed_turn : {S : Sorts} (L : Language S) (ranges : S.Ranges) (next : Next S) (act : Act S) → ParseShape L ranges next act → turns_behind second act ≡ 1
parsed_turn L ranges no_more act e = rw e refl
parsed_turn L ranges (bad r) act e = rw e refl
parsed_turn L ranges (found s line b) act (shape_names ranges' e) = rw e refl
parsed_turn L ranges (found s line b) act (shape_objects r known e) = rw e refl
parsed_turn L ranges (found s line b) act (shape_runs t known e) = rw e refl

processed_turn : {S : Sorts} (L : Language S) (t : S.Tree) (kind : Kind) (act : Act S) → ProcessShape L t kind act → turns_behind third act ≡ 1
processed_turn L t answer act (shape_tables ts tops fit known e) = rw e (shown_left (all_shown ts) (end ∷ []) 0)
processed_turn L t answer act (answer_refused h) = rw h.is refl
processed_turn L t update act (changes c known e) = rw e refl
processed_turn L t update act (update_refused h) = rw h.is refl
processed_turn L t utility act (known, e) = rw e refl

-- work of its shape leaves the turn where it goes on with it: at the stage, or in one message that it gives
pub shape_turn : {S : Sorts} (L : Language S) (mode : Mode S) (act : Act S) → WorkShape L mode act → turns_behind (worker mode) act ≡ also (has_turn (worker mode) mode) 0
shape_turn L (reading m) act h = rw h.is (reads_on h.monitor h.event)
shape_turn L (printing m o (said s)) act e = rw e refl
shape_turn L (printing m o end) act e = rw e refl
shape_turn L (parsing ranges b) act h = parsed_turn L ranges (L.next b) act h
shape_turn L (working3 t) act h = processed_turn L t (L.kind t) act h
shape_turn L (working4 (change c)) act e = rw e refl
shape_turn L (working4 (tree t)) act (does e) = rw e refl
shape_turn L (working4 (tree t)) act (utility_refused h) = rw h.is refl
shape_turn L (printing m o (text t)) act h = absurd h
shape_turn L (printing m o (cargo x)) act h = absurd h
shape_turn L (printing m o quit) act h = absurd h
shape_turn L (waiting m o) act h = absurd h
shape_turn L (idle2 ranges) act h = absurd h
shape_turn L (passing2 ranges line b) act h = absurd h
shape_turn L idle3 act h = absurd h
shape_turn L passing3 act h = absurd h
shape_turn L idle4 act h = absurd h
shape_turn L ended act h = absurd h

-- ---- a step

-- a stage between its pipes, in another room
abbrev elsewhere : {S : Sorts} → Between S → Room S → Between S
elsewhere s room = record { stage = s.stage; left_in = s.left_in; left_out = s.left_out; right_out = s.right_out; right_in = s.right_in; room = room }

from_left : {S : Sorts} (L : Language S) (s s' : Between S) (pipe : List Frame) (room : Room S) → FrameFromLeft L s pipe s' → FrameFromLeft L (elsewhere s room) pipe (elsewhere s' room)
from_left L s s' [] room g = g
from_left {S} L s s' (f ∷ fs) room (stage', e1, e2) = (stage', e1, ap (λ (x : Between S). elsewhere x room) e2)

from_right : {S : Sorts} (L : Language S) (s s' : Between S) (pipe : List Frame) (room : Room S) → FrameFromRight L s pipe s' → FrameFromRight L (elsewhere s room) pipe (elsewhere s' room)
from_right L s s' [] room g = g
from_right {S} L s s' (f ∷ fs) room (stage', e1, e2) = (stage', e1, ap (λ (x : Between S). elsewhere x room) e2)

to_left : {S : Sorts} (s s' : Between S) (out : List Frame) (room : Room S) → FrameToLeft s out s' → FrameToLeft (elsewhere s room) out (elsewhere s' room)
to_left s s' [] room g = g
to_left {S} s s' (f ∷ fs) room e = ap (λ (x : Between S). elsewhere x room) e

to_right : {S : Sorts} (s s' : Between S) (out : List Frame) (room : Room S) → FrameToRight s out s' → FrameToRight (elsewhere s room) out (elsewhere s' room)
to_right s s' [] room g = g
to_right {S} s s' (f ∷ fs) room e = ap (λ (x : Between S). elsewhere x room) e

steps_shape : {S : Sorts} (L : Language S) (laws : Laws L) (s s' : Between S) (w : Want) (room : Room S) → FitWork L s.stage.mode s.room.db → Steps L s w s' → StepsBy (WorksInShape L) L (elsewhere s room) w (elsewhere s' room)
steps_shape L laws s s' take_left room fit g = from_left L s s' s.left_in room g
steps_shape L laws s s' take_right room fit g = from_right L s s' s.right_in room g
steps_shape L laws s s' give_left room fit g = to_left s s' s.stage.out_left room g
steps_shape L laws s s' give_right room fit g = to_right s s' s.stage.out_right room g
steps_shape {S} L laws s s' work room fit (act, room', w, e) = (act, room, (has_shape L laws s.stage.mode s.room act room' fit w, refl), ap (λ (x : Between S). elsewhere x room) e)
steps_shape L laws s s' none room fit g = g

-- the network but for its room, in another one
abbrev moved : {S : Sorts} → Network S → Room S → Network S
moved n room = join (shape_of n) room

between_moved : {S : Sorts} (n : Network S) (k : StageNumber) (room : Room S) → elsewhere (between n k) room ≡ between (moved n room) k
between_moved n first room = refl
between_moved n second room = refl
between_moved n third room = refl
between_moved n fourth room = refl

put_moved : {S : Sorts} (n : Network S) (k : StageNumber) (s : Between S) (room : Room S) → moved (put_between n k s) room ≡ put_between (moved n room) k (elsewhere s room)
put_moved n first s room = refl
put_moved n second s room = refl
put_moved n third s room = refl
put_moved n fourth s room = refl

room_at : {S : Sorts} (n : Network S) (k : StageNumber) → (between n k).room ≡ n.room
room_at n first = refl
room_at n second = refl
room_at n third = refl
room_at n fourth = refl

unless_shape : {S : Sorts} (L : Language S) (laws : Laws L) (k : StageNumber) (n n' : Network S) (room : Room S) (blocked : Bool) → Orderly L n → StepsUnlessBlocked L k n n' blocked → StepsUnlessBlockedBy (WorksInShape L) L k (moved n room) (moved n' room) blocked
unless_shape {S} L laws k n n' room true o e = ap (λ (x : Network S). moved x room) e
unless_shape {S} L laws k n n' room false o (s', g, e) =
    let fit : FitWork L (between n k).stage.mode (between n k).room.db = subst (λ (r : Room S). FitWork L (between n k).stage.mode r.db) (sym (room_at n k)) (fit_work L k n o) in
    let st : StepsBy (WorksInShape L) L (elsewhere (between n k) room) (want (between n k).stage) (elsewhere s' room) = steps_shape L laws (between n k) s' (want (between n k).stage) room fit g in
    let st' : StepsBy (WorksInShape L) L (between (moved n room) k) (want (between (moved n room) k).stage) (elsewhere s' room) =
    subst (λ (b : Between S). StepsBy (WorksInShape L) L b (want b.stage) (elsewhere s' room)) (between_moved n k room) st in
    (elsewhere s' room, st', subst (λ (x : Network S). moved x room ≡ put_between (moved n room) k (elsewhere s' room)) (sym e) (put_moved n k s' room))

-- a step of an orderly network is one in which work has its shape, in each room
pub step_shape : {S : Sorts} (L : Language S) (laws : Laws L) (capacity : ℕ) (k : StageNumber) (n n' : Network S) (room : Room S) → Orderly L n → NetworkStep L capacity k n n' → StepsUnlessBlockedBy (WorksInShape L) L k (moved n room) (moved n' room) (is_stuck capacity k n)
step_shape L laws capacity k n n' room o h = unless_shape L laws k n n' room (is_stuck capacity k n) o h
