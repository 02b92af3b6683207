-- Each step of messages finishes the first of the statements that are left, or none, and keeps where the session ends: the steps of stage 1, and all.
use Rattle.std.proofs.Common.{◌≡◌, List, [], ◌∷◌, ◌++◌, Some, None, map, refl, subst, ◌∙◌}
use Rattle.std.specs.declared.option.Option.{Option}
use Rattle.network_meaning.specs.Sorts.{SessionEnd, Sorts, Said, Event, Event.goes_on, Event.sends, Event.leaves, Message.text, Message.said, Message.end, Message.quit}
use Rattle.network_meaning.specs.Language.{EndsAfter, HasStopped, Language, statements_after_event}
use Rattle.network_meaning.specs.Laws.{Laws}
use Rattle.network_meaning.specs.LocalSteps.{Mode.reading, Mode.waiting, Mode.printing, Mode.ended, Mode.parsing, Act, Room, turns_to, hands, read_act, written, closing, is_due, open_after, said_bytes}
use Rattle.network_meaning.specs.MessageNetwork.{MessageNetwork, Beside, StageNumber, StageNumber.first, StageNumber.second, StageNumber.third, StageNumber.fourth, beside, put, acted, MessageStep}
use Rattle.network_meaning.specs.Orderly.{Phase, Place, spread, last_in_f, Phase.reads, Phase.closes, Phase.sends, Phase.away, Phase.quits_a, Phase.quits_b, Phase.quits_c, Phase.over}
use Rattle.network_meaning.specs.Orderly.{Place.at_two, Place.in_b, Place.at_three, Place.in_c, Place.at_four, Place.in_d, Place.in_e_tables, Place.in_e_reply, Place.in_f}
use Rattle.network_meaning.proofs.Keeps.{due}
use Rattle.network_meaning.proofs.Front.{at}
use Rattle.network_meaning.proofs.StatementsStages.{OneStep, took, ran_by, none, second_finishes, third_finishes, fourth_finishes}

end_finishes : {S : Sorts} (L : Language S) (m : S.Monitor) (o : Option S.Head) (ranges : S.Ranges) (p : Place S) (room : Room S) (v' : MessageNetwork S) →
    MessageStep L first (spread (at m o None [] ranges p) room) v' → OneStep L (spread (at m o None [] ranges p) room) v'
end_finishes L m o ranges in_f room v' (s', (act, e1, e2), e3) =
    took L first _ (turns_to (printing m o end)) act [] [] room s' v' e1 e2 e3 (none L _ _ refl refl (λ x h. h))
end_finishes L m o ranges (at_two b) room v' (s', h, e3) = absurd h
end_finishes L m o ranges (in_b line b t) room v' (s', h, e3) = absurd h
end_finishes L m o ranges (at_three line b t) room v' (s', h, e3) = absurd h
end_finishes L m o ranges (in_c line b x) room v' (s', h, e3) = absurd h
end_finishes L m o ranges (at_four line b x) room v' (s', h, e3) = absurd h
end_finishes L m o ranges (in_d line b r) room v' (s', h, e3) = absurd h
end_finishes L m o ranges (in_e_tables line b ss) room v' (s', h, e3) = absurd h
end_finishes L m o ranges (in_e_reply line b r) room v' (s', h, e3) = absurd h

front_finishes : {S : Sorts} (L : Language S) (m : S.Monitor) (o : Option S.Head) (prints : Option (Said S)) (coming : List (Said S)) (ranges : S.Ranges) (p : Place S) (room : Room S) (v' : MessageNetwork S) →
    MessageStep L first (spread (at m o prints coming ranges p) room) v' → OneStep L (spread (at m o prints coming ranges p) room) v'
front_finishes L m o None [] ranges p room v' h = end_finishes L m o ranges p room v' h
front_finishes L m o None (s ∷ ss) ranges p room v' (s', (act, e1, e2), e3) =
    took L first _ (turns_to (printing m o (said s))) act [] (map said ss ++ last_in_f p) room s' v' (due (is_due L o s) (turns_to (printing m o (said s))) act e1) e2 e3 (none L _ _ refl refl (λ x h. h))
front_finishes L m o (Some s) coming ranges p room v' (s', (act, room', (e1, e2), e3), e4) =
    ran_by L first _ (turns_to (waiting m (open_after o s))) act [] (map said coming ++ last_in_f p) (written room (said_bytes L o s)) room' s' v' e1 e2 e3 e4 (none L _ _ refl refl (λ x h. h))

-- stage 1 reads on
reads_on : {S : Sorts} (L : Language S) (m : S.Monitor) (ranges : S.Ranges) (room : Room S) (v' : MessageNetwork S) (event : Event S) (act : Act S) (room' : Room S) (s' : Beside S) →
    L.script_statements room.db room.shelf ranges m room.script ≡ statements_after_event L room.db ranges (L.read m room.script room.shelf) event →
    EndsAfter L room.db ranges (L.read m room.script room.shelf) event (L.script_end room.db room.shelf ranges m room.script) →
    act ≡ read_act (L.read m room.script room.shelf).monitor event →
    room' ≡ record { db = room.db; shelf = (L.read m room.script room.shelf).shelf; script = (L.read m room.script room.shelf).script; out = room.out ++ (L.read m room.script room.shelf).bytes } →
    s' ≡ acted (beside (spread (reads m ranges) room) first) act [] [] room' → v' ≡ put (spread (reads m ranges) room) first s' →
    OneStep L (spread (reads m ranges) room) v'
reads_on L m ranges room v' goes_on act room' s' e n e1 e2 e3 e4 =
    ran_by L first _ (turns_to (reading (L.read m room.script room.shelf).monitor)) act [] [] _ room' s' v' e1 e2 e3 e4 (none L _ _ e refl (λ x h. n ∙ h))
reads_on L m ranges room v' (sends t) act room' s' e n e1 e2 e3 e4 =
    ran_by L first _ (hands (waiting (L.read m room.script room.shelf).monitor None) (text t)) act [] [] _ room' s' v' e1 e2 e3 e4 (none L _ _ e refl (λ x h. n ∙ h))
reads_on {S} L m ranges room v' leaves act room' s' e n e1 e2 e3 e4 =
    ran_by L first _ (hands ended quit) act [] [] _ room' s' v' e1 e2 e3 e4 (none L _ _ e refl (λ x h. subst (λ (z : SessionEnd S). HasStopped L room.db (L.read m room.script room.shelf).shelf (L.read m room.script room.shelf).script z) h n))

pub step_finishes : {S : Sorts} (L : Language S) (laws : Laws L) (p : Phase S) (room : Room S) (k : StageNumber) (v' : MessageNetwork S) →
    MessageStep L k (spread p room) v' → OneStep L (spread p room) v'
step_finishes L laws (reads m ranges) room first v' (s', (act, room', (e1, e2), e3), e4) =
    reads_on L m ranges room v' (L.read m room.script room.shelf).event act room' s' (laws.script_list room.db room.shelf ranges m room.script) (laws.script_ends room.db room.shelf ranges m room.script) e1 e2 e3 e4
step_finishes L laws (reads m ranges) room second v' (s', h, e4) = absurd h
step_finishes L laws (reads m ranges) room third v' (s', h, e4) = absurd h
step_finishes L laws (reads m ranges) room fourth v' (s', h, e4) = absurd h
step_finishes L laws (closes m o ranges) room first v' (s', (act, room', (e1, e2), e3), e4) =
    ran_by L first _ (turns_to (reading m)) act [] [] (written room (closing L o)) room' s' v' e1 e2 e3 e4 (none L _ _ refl refl (λ x h. h))
step_finishes L laws (closes m o ranges) room second v' (s', h, e4) = absurd h
step_finishes L laws (closes m o ranges) room third v' (s', h, e4) = absurd h
step_finishes L laws (closes m o ranges) room fourth v' (s', h, e4) = absurd h
step_finishes L laws (sends m ranges t) room first v' (s', h, e4) = absurd h
step_finishes L laws (sends m ranges t) room second v' (s', (act, e1, e2), e3) =
    took L second _ (turns_to (parsing ranges (L.start t))) act [] [] room s' v' e1 e2 e3 (none L _ _ refl refl (λ x h. h))
step_finishes L laws (sends m ranges t) room third v' (s', h, e4) = absurd h
step_finishes L laws (sends m ranges t) room fourth v' (s', h, e4) = absurd h
step_finishes L laws (away w p) room first v' h = front_finishes L w.monitor w.open_head w.prints w.coming w.ranges p room v' h
step_finishes L laws (away w p) room second v' h = second_finishes L laws w p room v' h
step_finishes L laws (away w p) room third v' h = third_finishes L w p room v' h
step_finishes L laws (away w p) room fourth v' h = fourth_finishes L w p room v' h
step_finishes L laws (quits_a ranges) room first v' (s', h, e4) = absurd h
step_finishes L laws (quits_a ranges) room second v' (s', (act, e1, e2), e3) =
    took L second _ (hands ended quit) act [] [] room s' v' e1 e2 e3 (none L _ _ refl refl (λ x h. h))
step_finishes L laws (quits_a ranges) room third v' (s', h, e4) = absurd h
step_finishes L laws (quits_a ranges) room fourth v' (s', h, e4) = absurd h
step_finishes L laws quits_b room first v' (s', h, e4) = absurd h
step_finishes L laws quits_b room second v' (s', h, e4) = absurd h
step_finishes L laws quits_b room third v' (s', (act, e1, e2), e3) =
    took L third _ (hands ended quit) act [] [] room s' v' e1 e2 e3 (none L _ _ refl refl (λ x h. h))
step_finishes L laws quits_b room fourth v' (s', h, e4) = absurd h
step_finishes L laws quits_c room first v' (s', h, e4) = absurd h
step_finishes L laws quits_c room second v' (s', h, e4) = absurd h
step_finishes L laws quits_c room third v' (s', h, e4) = absurd h
step_finishes L laws quits_c room fourth v' (s', (act, e1, e2), e3) =
    took L fourth _ (turns_to ended) act [] [] room s' v' e1 e2 e3 (none L _ _ refl refl (λ x h. h))
step_finishes L laws over room first v' (s', h, e4) = absurd h
step_finishes L laws over room second v' (s', h, e4) = absurd h
step_finishes L laws over room third v' (s', h, e4) = absurd h
step_finishes L laws over room fourth v' (s', h, e4) = absurd h
