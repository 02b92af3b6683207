-- Each step of stage 1 lowers what is left.
use Rattle.std.proofs.Common.{◌≡◌, ◌≤◌, ◌+◌, List, [], ◌∷◌, ◌++◌, Some, None, map, arith}
use Rattle.std.specs.declared.option.Option.{Option}
use Rattle.network_meaning.specs.Sorts.{Sorts, Said, Event, Event.goes_on, Event.sends, Event.leaves, Message.text, Message.said, Message.end, Message.quit}
use Rattle.network_meaning.specs.Language.{Language}
use Rattle.network_meaning.specs.Laws.{Laws}
use Rattle.network_meaning.specs.LocalSteps.{Mode.reading, Mode.waiting, Mode.printing, Mode.ended, Mode.parsing, Act, Room, turns_to, hands, read_act, written, closing, is_due, open_after, said_bytes}
use Rattle.network_meaning.specs.MessageNetwork.{MessageNetwork, Beside, StageNumber, StageNumber.first, StageNumber.second, StageNumber.third, StageNumber.fourth, beside, put, acted, MessageStep}
use Rattle.network_meaning.specs.WorkLeft.{Work, WorkLaws, Lowers, event_work}
use Rattle.network_meaning.specs.Orderly.{Phase, Place, spread, FitPhase, last_in_f, Phase.reads, Phase.closes, Phase.sends, Phase.away, Phase.quits_a, Phase.quits_b, Phase.quits_c, Phase.over}
use Rattle.network_meaning.specs.Orderly.{Place.at_two, Place.in_b, Place.at_three, Place.in_c, Place.at_four, Place.in_d, Place.in_e_tables, Place.in_e_reply, Place.in_f}
use Rattle.network_meaning.proofs.Keeps.{due}
use Rattle.network_meaning.proofs.Lowering.{took, done_by, second_lowers, third_lowers, fourth_lowers}

abbrev at : {S : Sorts} → S.Monitor → Option S.Head → Option (Said S) → List (Said S) → S.Ranges → Place S → Phase S
at m o prints coming ranges p = away (record { monitor = m; open_head = o; prints = prints; coming = coming; ranges = ranges }) p

end_lowers : {S : Sorts} (L : Language S) (W : Work L) (m : S.Monitor) (o : Option S.Head) (ranges : S.Ranges) (p : Place S) (room : Room S) (v' : MessageNetwork S) →
    MessageStep L first (spread (at m o None [] ranges p) room) v' → Lowers L W first (spread (at m o None [] ranges p) room) v'
end_lowers L W m o ranges in_f room v' (s', (act, e1, e2), e3) =
    took L W first _ (turns_to (printing m o end)) act [] [] room s' v' e1 e2 e3 (record { lower = omega arith })
end_lowers L W m o ranges (at_two b) room v' (s', h, e3) = absurd h
end_lowers L W m o ranges (in_b line b t) room v' (s', h, e3) = absurd h
end_lowers L W m o ranges (at_three line b t) room v' (s', h, e3) = absurd h
end_lowers L W m o ranges (in_c line b x) room v' (s', h, e3) = absurd h
end_lowers L W m o ranges (at_four line b x) room v' (s', h, e3) = absurd h
end_lowers L W m o ranges (in_d line b r) room v' (s', h, e3) = absurd h
end_lowers L W m o ranges (in_e_tables line b ss) room v' (s', h, e3) = absurd h
end_lowers L W m o ranges (in_e_reply line b r) room v' (s', h, e3) = absurd h

front_lowers : {S : Sorts} (L : Language S) (W : Work L) (m : S.Monitor) (o : Option S.Head) (prints : Option (Said S)) (coming : List (Said S)) (ranges : S.Ranges) (p : Place S) (room : Room S) (v' : MessageNetwork S) →
    MessageStep L first (spread (at m o prints coming ranges p) room) v' → Lowers L W first (spread (at m o prints coming ranges p) room) v'
front_lowers L W m o None [] ranges p room v' h = end_lowers L W m o ranges p room v' h
front_lowers L W m o None (s ∷ ss) ranges p room v' (s', (act, e1, e2), e3) =
    took L W first _ (turns_to (printing m o (said s))) act [] (map said ss ++ last_in_f p) room s' v' (due (is_due L o s) (turns_to (printing m o (said s))) act e1) e2 e3 (record { lower = omega arith })
front_lowers L W m o (Some s) coming ranges p room v' (s', (act, room', (e1, e2), e3), e4) =
    done_by L W first _ (turns_to (waiting m (open_after o s))) act [] (map said coming ++ last_in_f p) (written room (said_bytes L o s)) room' s' v' e1 e2 e3 e4 (record { lower = omega arith })

reads_lower : {S : Sorts} (L : Language S) (W : Work L) (m : S.Monitor) (ranges : S.Ranges) (room : Room S) (v' : MessageNetwork S) (event : Event S) (act : Act S) (room' : Room S) (s' : Beside S) →
    1 + event_work L W room.db ranges (L.read m room.script room.shelf) event ≤ W.script_work room.db room.shelf ranges m room.script →
    act ≡ read_act (L.read m room.script room.shelf).monitor event →
    room' ≡ record { db = room.db; shelf = (L.read m room.script room.shelf).shelf; script = (L.read m room.script room.shelf).script; out = room.out ++ (L.read m room.script room.shelf).bytes } →
    s' ≡ acted (beside (spread (reads m ranges) room) first) act [] [] room' → v' ≡ put (spread (reads m ranges) room) first s' →
    Lowers L W first (spread (reads m ranges) room) v'
reads_lower L W m ranges room v' goes_on act room' s' le e1 e2 e3 e4 =
    done_by L W first _ (turns_to (reading (L.read m room.script room.shelf).monitor)) act [] [] _ room' s' v' e1 e2 e3 e4 (record { lower = omega arith })
reads_lower L W m ranges room v' (sends t) act room' s' le e1 e2 e3 e4 =
    done_by L W first _ (hands (waiting (L.read m room.script room.shelf).monitor None) (text t)) act [] [] _ room' s' v' e1 e2 e3 e4 (record { lower = omega arith })
reads_lower L W m ranges room v' leaves act room' s' le e1 e2 e3 e4 =
    done_by L W first _ (hands ended quit) act [] [] _ room' s' v' e1 e2 e3 e4 (record { lower = omega arith })

pub step_lowers : {S : Sorts} (L : Language S) (laws : Laws L) (W : Work L) (wl : WorkLaws L W) (p : Phase S) (room : Room S) (k : StageNumber) (v' : MessageNetwork S) → FitPhase L p room.db →
    MessageStep L k (spread p room) v' → Lowers L W k (spread p room) v'
step_lowers L laws W wl (reads m ranges) room first v' fits (s', (act, room', (e1, e2), e3), e4) =
    reads_lower L W m ranges room v' (L.read m room.script room.shelf).event act room' s' (wl.script room.db room.shelf ranges m room.script) e1 e2 e3 e4
step_lowers L laws W wl (reads m ranges) room second v' fits (s', h, e4) = absurd h
step_lowers L laws W wl (reads m ranges) room third v' fits (s', h, e4) = absurd h
step_lowers L laws W wl (reads m ranges) room fourth v' fits (s', h, e4) = absurd h
step_lowers L laws W wl (closes m o ranges) room first v' fits (s', (act, room', (e1, e2), e3), e4) =
    done_by L W first _ (turns_to (reading m)) act [] [] (written room (closing L o)) room' s' v' e1 e2 e3 e4 (record { lower = omega arith })
step_lowers L laws W wl (closes m o ranges) room second v' fits (s', h, e4) = absurd h
step_lowers L laws W wl (closes m o ranges) room third v' fits (s', h, e4) = absurd h
step_lowers L laws W wl (closes m o ranges) room fourth v' fits (s', h, e4) = absurd h
step_lowers L laws W wl (sends m ranges t) room first v' fits (s', h, e4) = absurd h
step_lowers L laws W wl (sends m ranges t) room second v' fits (s', (act, e1, e2), e3) =
    took L W second _ (turns_to (parsing ranges (L.start t))) act [] [] room s' v' e1 e2 e3 (record { lower = omega arith })
step_lowers L laws W wl (sends m ranges t) room third v' fits (s', h, e4) = absurd h
step_lowers L laws W wl (sends m ranges t) room fourth v' fits (s', h, e4) = absurd h
step_lowers L laws W wl (away w p) room first v' fits h = front_lowers L W w.monitor w.open_head w.prints w.coming w.ranges p room v' h
step_lowers L laws W wl (away w p) room second v' fits h = second_lowers L laws W wl w p room v' h
step_lowers L laws W wl (away w p) room third v' fits h = third_lowers L W wl w p room v' fits h
step_lowers L laws W wl (away w p) room fourth v' fits h = fourth_lowers L W w p room v' h
step_lowers L laws W wl (quits_a ranges) room first v' fits (s', h, e4) = absurd h
step_lowers L laws W wl (quits_a ranges) room second v' fits (s', (act, e1, e2), e3) =
    took L W second _ (hands ended quit) act [] [] room s' v' e1 e2 e3 (record { lower = omega arith })
step_lowers L laws W wl (quits_a ranges) room third v' fits (s', h, e4) = absurd h
step_lowers L laws W wl (quits_a ranges) room fourth v' fits (s', h, e4) = absurd h
step_lowers L laws W wl quits_b room first v' fits (s', h, e4) = absurd h
step_lowers L laws W wl quits_b room second v' fits (s', h, e4) = absurd h
step_lowers L laws W wl quits_b room third v' fits (s', (act, e1, e2), e3) =
    took L W third _ (hands ended quit) act [] [] room s' v' e1 e2 e3 (record { lower = omega arith })
step_lowers L laws W wl quits_b room fourth v' fits (s', h, e4) = absurd h
step_lowers L laws W wl quits_c room first v' fits (s', h, e4) = absurd h
step_lowers L laws W wl quits_c room second v' fits (s', h, e4) = absurd h
step_lowers L laws W wl quits_c room third v' fits (s', h, e4) = absurd h
step_lowers L laws W wl quits_c room fourth v' fits (s', (act, e1, e2), e3) =
    took L W fourth _ (turns_to ended) act [] [] room s' v' e1 e2 e3 (record { lower = omega arith })
step_lowers L laws W wl over room first v' fits (s', h, e4) = absurd h
step_lowers L laws W wl over room second v' fits (s', h, e4) = absurd h
step_lowers L laws W wl over room third v' fits (s', h, e4) = absurd h
step_lowers L laws W wl over room fourth v' fits (s', h, e4) = absurd h
