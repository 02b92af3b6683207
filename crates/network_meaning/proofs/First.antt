-- Stage 1 with the turn, and the stages that end.
use Rattle.std.proofs.Common.{◌≡◌, [], ◌++◌, None, refl, append_assoc}
use Rattle.std.proofs.lemmas.List.{append-nil}
use Rattle.network_meaning.specs.Sorts.{Sorts, Event, Event.goes_on, Event.sends, Event.leaves, Message.text, Message.quit}
use Rattle.network_meaning.specs.Language.{Language, after_event}
use Rattle.network_meaning.specs.Laws.{Laws}
use Rattle.network_meaning.specs.LocalSteps.{Mode.reading, Mode.waiting, Mode.ended, Mode.parsing, Act, Room, turns_to, hands, read_act, written, closing}
use Rattle.network_meaning.specs.MessageNetwork.{MessageNetwork, Beside, StageNumber, StageNumber.first, StageNumber.second, StageNumber.third, StageNumber.fourth, beside, put, acted, MessageStep}
use Rattle.network_meaning.specs.Due.{IsDue}
use Rattle.network_meaning.specs.Spelled.{IsSpelled}
use Rattle.network_meaning.specs.Orderly.{Phase, Phase.reads, Phase.closes, Phase.sends, Phase.away, Phase.quits_a, Phase.quits_b, Phase.quits_c, Phase.over, Place.at_two, spread}
use Rattle.network_meaning.specs.Lawful.{FitWork}
use Rattle.network_meaning.proofs.Keeps.{Keeps, taken, worked}
use Rattle.network_meaning.proofs.Front.{front_step}
use Rattle.network_meaning.proofs.Second.{second_step}
use Rattle.network_meaning.proofs.Third.{third_step, fourth_step}

abbrev read_room : {S : Sorts} → Language S → S.Monitor → Room S → Room S
read_room L m room = let got = L.read m room.script room.shelf in record { db = room.db; shelf = got.shelf; script = got.script; out = room.out ++ got.bytes }

-- stage 1 reads on
reads_on : {S : Sorts} (L : Language S) (laws : Laws L) (m : S.Monitor) (ranges : S.Ranges) (room : Room S) (v' : MessageNetwork S) (event : Event S) (act : Act S) (room' : Room S) (s' : Beside S) →
    L.script_bytes room.db room.shelf ranges m room.script ≡ after_event L room.db ranges (L.read m room.script room.shelf) event → (L.read m room.script room.shelf).event ≡ event →
    act ≡ read_act (L.read m room.script room.shelf).monitor event → room' ≡ read_room L m room →
    s' ≡ acted (beside (spread (reads m ranges) room) first) act [] [] room' → v' ≡ put (spread (reads m ranges) room) first s' →
    Keeps L (reads m ranges) room v'
reads_on L laws m ranges room v' goes_on act room' s' e ev e1 e2 e3 e4 =
    let got = L.read m room.script room.shelf in
    worked L (reads m ranges) room first (turns_to (reading got.monitor)) act (read_room L m room) room' s' v' e1 e2 e3 e4
    (record { phase = reads got.monitor ranges; room = read_room L m room; is = refl; routed = λ h. tt; fits = λ h. tt; due = tt; spelled = record { a = tt; b = tt; c = tt; d = tt; e = tt; f = tt; first_left = tt; last_right = tt; line = tt }; same = rw e (append_assoc room.out got.bytes _) })
reads_on L laws m ranges room v' (sends t) act room' s' e ev e1 e2 e3 e4 =
    let got = L.read m room.script room.shelf in
    worked L (reads m ranges) room first (hands (waiting got.monitor None) (text t)) act (read_room L m room) room' s' v' e1 e2 e3 e4
    (record {
      phase = sends got.monitor ranges t;
      room = read_room L m room;
      is = refl;
      routed = λ h. tt;
      fits = λ h. tt;
      due = tt;
      spelled = record { a = (laws.text_spelled m room.script room.shelf t ev, tt); b = tt; c = tt; d = tt; e = tt; f = tt; first_left = tt; last_right = tt; line = tt };
      same = rw e (append_assoc room.out got.bytes _);
    })
reads_on L laws m ranges room v' leaves act room' s' e ev e1 e2 e3 e4 =
    let got = L.read m room.script room.shelf in
    worked L (reads m ranges) room first (hands ended quit) act (read_room L m room) room' s' v' e1 e2 e3 e4
    (record { phase = quits_a ranges; room = read_room L m room; is = refl; routed = λ h. tt; fits = λ h. tt; due = tt; spelled = record { a = (laws.quit_spelled, tt); b = tt; c = tt; d = tt; e = tt; f = tt; first_left = tt; last_right = tt; line = tt }; same = rw e (simp append-nil) })

-- a message-level step leads from a phase to a phase, and the bytes in all stay the same
pub step_keeps : {S : Sorts} (L : Language S) (laws : Laws L) (p : Phase S) (room : Room S) (k : StageNumber) (v' : MessageNetwork S) → FitWork L (beside (spread p room) k).mode room.db → IsDue L (spread p room) → IsSpelled L (spread p room) →
    MessageStep L k (spread p room) v' → Keeps L p room v'
step_keeps L laws (reads m ranges) room first v' fits d sp (s', (act, room', (e1, e2), e3), e4) =
    reads_on L laws m ranges room v' (L.read m room.script room.shelf).event act room' s' (laws.script room.db room.shelf ranges m room.script) refl e1 e2 e3 e4
step_keeps L laws (reads m ranges) room second v' fits d sp (s', h, e4) = absurd h
step_keeps L laws (reads m ranges) room third v' fits d sp (s', h, e4) = absurd h
step_keeps L laws (reads m ranges) room fourth v' fits d sp (s', h, e4) = absurd h
step_keeps L laws (closes m o ranges) room first v' fits d sp (s', (act, room', (e1, e2), e3), e4) =
    worked L (closes m o ranges) room first (turns_to (reading m)) act (written room (closing L o)) room' s' v' e1 e2 e3 e4
    (record { phase = reads m ranges; room = written room (closing L o); is = refl; routed = λ h. tt; fits = λ h. tt; due = tt; spelled = record { a = tt; b = tt; c = tt; d = tt; e = tt; f = tt; first_left = tt; last_right = tt; line = tt }; same = simp (append_assoc, append-nil) })
step_keeps L laws (closes m o ranges) room second v' fits d sp (s', h, e4) = absurd h
step_keeps L laws (closes m o ranges) room third v' fits d sp (s', h, e4) = absurd h
step_keeps L laws (closes m o ranges) room fourth v' fits d sp (s', h, e4) = absurd h
step_keeps L laws (sends m ranges t) room first v' fits d sp (s', h, e4) = absurd h
step_keeps L laws (sends m ranges t) room second v' fits d sp (s', (act, e1, e2), e3) =
    taken L (sends m ranges t) room second [] [] (turns_to (parsing ranges (L.start t))) act s' v' e1 e2 e3
    (record { phase = away (record { monitor = m; open_head = None; prints = None; coming = []; ranges = ranges }) (at_two (L.start t)); room = room; is = refl; routed = λ h. tt; fits = λ h. tt; due = tt; spelled = record { a = tt; b = tt; c = tt; d = tt; e = tt; f = tt; first_left = tt; last_right = tt; line = tt }; same = refl })
step_keeps L laws (sends m ranges t) room third v' fits d sp (s', h, e4) = absurd h
step_keeps L laws (sends m ranges t) room fourth v' fits d sp (s', h, e4) = absurd h
step_keeps L laws (away w p) room first v' fits d sp h = front_step L w.monitor w.open_head w.prints w.coming w.ranges p room v' d sp h
step_keeps L laws (away w p) room second v' fits d sp h = second_step L laws w p room v' d sp h
step_keeps L laws (away w p) room third v' fits d sp h = third_step L laws w p room v' fits d sp h
step_keeps L laws (away w p) room fourth v' fits d sp h = fourth_step L laws w p room v' fits d sp h
step_keeps L laws (quits_a ranges) room first v' fits d sp (s', h, e4) = absurd h
step_keeps L laws (quits_a ranges) room second v' fits d sp (s', (act, e1, e2), e3) =
    taken L (quits_a ranges) room second [] [] (hands ended quit) act s' v' e1 e2 e3
    (record { phase = quits_b; room = room; is = refl; routed = λ h. tt; fits = λ h. tt; due = tt; spelled = record { a = tt; b = sp.a; c = tt; d = tt; e = tt; f = tt; first_left = tt; last_right = tt; line = tt }; same = refl })
step_keeps L laws (quits_a ranges) room third v' fits d sp (s', h, e4) = absurd h
step_keeps L laws (quits_a ranges) room fourth v' fits d sp (s', h, e4) = absurd h
step_keeps L laws quits_b room first v' fits d sp (s', h, e4) = absurd h
step_keeps L laws quits_b room second v' fits d sp (s', h, e4) = absurd h
step_keeps L laws quits_b room third v' fits d sp (s', (act, e1, e2), e3) =
    taken L quits_b room third [] [] (hands ended quit) act s' v' e1 e2 e3
    (record { phase = quits_c; room = room; is = refl; routed = λ h. tt; fits = λ h. tt; due = tt; spelled = record { a = tt; b = tt; c = sp.b; d = tt; e = tt; f = tt; first_left = tt; last_right = tt; line = tt }; same = refl })
step_keeps L laws quits_b room fourth v' fits d sp (s', h, e4) = absurd h
step_keeps L laws quits_c room first v' fits d sp (s', h, e4) = absurd h
step_keeps L laws quits_c room second v' fits d sp (s', h, e4) = absurd h
step_keeps L laws quits_c room third v' fits d sp (s', h, e4) = absurd h
step_keeps L laws quits_c room fourth v' fits d sp (s', (act, e1, e2), e3) =
    taken L quits_c room fourth [] [] (turns_to ended) act s' v' e1 e2 e3
    (record { phase = over; room = room; is = refl; routed = λ h. tt; fits = λ h. tt; due = tt; spelled = record { a = tt; b = tt; c = tt; d = tt; e = tt; f = tt; first_left = tt; last_right = tt; line = tt }; same = refl })
step_keeps L laws over room first v' fits d sp (s', h, e4) = absurd h
step_keeps L laws over room second v' fits d sp (s', h, e4) = absurd h
step_keeps L laws over room third v' fits d sp (s', h, e4) = absurd h
step_keeps L laws over room fourth v' fits d sp (s', h, e4) = absurd h
