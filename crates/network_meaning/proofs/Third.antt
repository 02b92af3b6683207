-- The steps of stages 3 and 4.
use Rattle.std.proofs.Common.{◌≡◌, ℕ, [], ◌∷◌, ◌++◌, map, refl}
use Rattle.std.proofs.lemmas.List.{append-nil}
use Rattle.network_meaning.specs.Sorts.{Sorts, Cargo, Cargo.tree, Cargo.change, Shown, Outcome, Outcome.tables, Outcome.made, Outcome.refuses, Kind, Kind.answer, Kind.update, Kind.utility}
use Rattle.network_meaning.specs.Sorts.{Reply.done, Reply.refused, Said.shown, Said.replied, Message.cargo, Message.said, Message.end}
use Rattle.network_meaning.specs.Language.{Language}
use Rattle.network_meaning.specs.Laws.{Laws}
use Rattle.network_meaning.specs.LocalSteps.{Mode.idle3, Mode.working3, Mode.passing3, Mode.idle4, Mode.working4, Act, Room, Processes, CarriesOut, turns_to, says, hands, outcome_of, all_shown, IsFit, goes_to_four}
use Rattle.network_meaning.specs.MessageNetwork.{MessageNetwork, Beside, StageNumber.third, StageNumber.fourth, beside, put, acted, MessageStep}
use Rattle.network_meaning.specs.Held.{kept, begun}
use Rattle.network_meaning.specs.Due.{IsDue}
use Rattle.network_meaning.specs.Spelled.{Spelled, IsSpelled}
use Rattle.network_meaning.specs.Orderly.{Place, Front, Phase.away, spread, front_mode, mode_three, mode_four}
use Rattle.network_meaning.specs.Lawful.{FitWork}
use Rattle.network_meaning.specs.Orderly.{Place.at_two, Place.in_b, Place.at_three, Place.in_c, Place.at_four, Place.in_d, Place.in_e_tables, Place.in_e_reply, Place.in_f}
use Rattle.network_meaning.proofs.Frames.{each-append}
use Rattle.network_meaning.proofs.Keeps.{Keeps, taken, worked, due}
use Rattle.network_meaning.proofs.Due.{reply_anywhere, tables_anywhere, said_due}
use Rattle.network_meaning.proofs.Printing.{opens_reply, opens_tables, say_more, tables_printed, lines_kept}

-- stage 3 works on a tree
processes : {S : Sorts} (L : Language S) (laws : Laws L) (w : Front S) (line : ℕ) (b : S.Batch) (t : S.Tree) (room : Room S) (v' : MessageNetwork S) (kind : Kind) (outcome : Outcome S) (act : Act S) (room' : Room S) (s' : Beside S) →
    IsDue L (spread (away w (at_three line b t)) room) → IsSpelled L (spread (away w (at_three line b t)) room) → L.kind t ≡ kind → L.outcome t room.db room.shelf ≡ outcome → L.Fits t room.db →
    Processes L room t kind outcome act → room' ≡ room →
    s' ≡ acted (beside (spread (away w (at_three line b t)) room) third) act [] [] room' → v' ≡ put (spread (away w (at_three line b t)) room) third s' →
    Keeps L (away w (at_three line b t)) room v'
processes {S} L laws w line b t room v' answer (tables ts) act room' s' d sp ek e fits j e2 e3 e4 =
    worked L (away w (at_three line b t)) room third (says idle3 (map (λ (s : Shown S). said (shown s)) (all_shown ts) ++ end ∷ [])) act room room' s' v' j e2 e3 e4
    (record {
      phase = away w (in_e_tables line b (all_shown ts));
      room = room;
      is = refl;
      routed = λ h. tt;
      fits = λ h. tt;
      due = simp append-nil (rw (lines_kept L line (all_shown ts) (end ∷ [])) (said_due L w (map (λ (s : Shown S). said (shown s)) (all_shown ts) ++ end ∷ []) d (tables_anywhere L ts (laws.rows t room.db room.shelf ts fits e))));
      spelled = record { a = tt; b = tt; c = tt; d = tt; e = each-append L (map (λ (s : Shown S). said (shown s)) (all_shown ts)) (end ∷ []) (laws.tables_spelled t room.db room.shelf ts fits e) (laws.end_spelled, tt); f = sp.f; first_left = tt; last_right = tt; line = sp.line };
      same = rw e (simp append-nil (rw (lines_kept L line (all_shown ts) (end ∷ []), say_more L room.out (begun (front_mode w.monitor w.open_head w.prints)) (kept (front_mode w.monitor w.open_head w.prints)) (map said w.coming) (map (λ (s : Shown S). said (shown s)) (all_shown ts) ++ end ∷ []) _ (opens_tables L ts), tables_printed L ts) refl));
    })
processes L laws w line b t room v' answer (refuses r) act room' s' d sp ek e fits j e2 e3 e4 =
    worked L (away w (at_three line b t)) room third (says idle3 (said (replied (refused r)) ∷ [])) act room room' s' v' j e2 e3 e4
    (record { phase = away w (in_e_reply line b (refused r)); room = room; is = refl; routed = λ h. tt; fits = λ h. tt; due = simp append-nil (said_due L w (said (replied (refused (L.lined line r))) ∷ []) d (reply_anywhere L (refused (L.lined line r)) [] tt)); spelled = record { a = tt; b = tt; c = tt; d = tt; e = (laws.outcome_spelled t room.db room.shelf r fits e, tt); f = sp.f; first_left = tt; last_right = tt; line = sp.line }; same = rw e (simp append-nil (rw (say_more L room.out (begun (front_mode w.monitor w.open_head w.prints)) (kept (front_mode w.monitor w.open_head w.prints)) (map said w.coming) (said (replied (refused (L.lined line r))) ∷ []) _ (opens_reply L (refused (L.lined line r)) [])) (simp append-nil))) })
processes L laws w line b t room v' answer (made db shelf) act room' s' d sp ek e fits j e2 e3 e4 = absurd j
processes L laws w line b t room v' update (tables ts) act room' s' d sp ek e fits j e2 e3 e4 = absurd j
processes L laws w line b t room v' update (refuses r) act room' s' d sp ek e fits j e2 e3 e4 =
    worked L (away w (at_three line b t)) room third (says idle3 (said (replied (refused r)) ∷ [])) act room room' s' v' j e2 e3 e4
    (record { phase = away w (in_e_reply line b (refused r)); room = room; is = refl; routed = λ h. tt; fits = λ h. tt; due = simp append-nil (said_due L w (said (replied (refused (L.lined line r))) ∷ []) d (reply_anywhere L (refused (L.lined line r)) [] tt)); spelled = record { a = tt; b = tt; c = tt; d = tt; e = (laws.outcome_spelled t room.db room.shelf r fits e, tt); f = sp.f; first_left = tt; last_right = tt; line = sp.line }; same = rw e (simp append-nil (rw (say_more L room.out (begun (front_mode w.monitor w.open_head w.prints)) (kept (front_mode w.monitor w.open_head w.prints)) (map said w.coming) (said (replied (refused (L.lined line r))) ∷ []) _ (opens_reply L (refused (L.lined line r)) [])) (simp append-nil))) })
processes L laws w line b t room v' update (made db shelf) act room' s' d sp ek e fits (c, lawful, laid, same_shelf, j) e2 e3 e4 =
    worked L (away w (at_three line b t)) room third (hands passing3 (cargo (change c))) act room room' s' v' j e2 e3 e4
    (record { phase = away w (in_c line b (change c)); room = room; is = refl; routed = λ h. refl; fits = λ h. (lawful, refl); due = d; spelled = record { a = tt; b = tt; c = (laws.change_spelled c room.db lawful, tt); d = tt; e = tt; f = sp.f; first_left = tt; last_right = tt; line = sp.line }; same = rw (e, laid, same_shelf) refl })
processes L laws w line b t room v' utility outcome act room' s' d sp ek e fits j e2 e3 e4 =
    worked L (away w (at_three line b t)) room third (hands passing3 (cargo (tree t))) act room room' s' v' j e2 e3 e4
    (record { phase = away w (in_c line b (tree t)); room = room; is = refl; routed = λ h. rw ek refl; fits = λ h. (fits, rw ek refl); due = d; spelled = record { a = tt; b = tt; c = (laws.tree_spelled t room.db fits, tt); d = tt; e = tt; f = sp.f; first_left = tt; last_right = tt; line = sp.line }; same = refl })

pub third_step : {S : Sorts} (L : Language S) (laws : Laws L) (w : Front S) (p : Place S) (room : Room S) (v' : MessageNetwork S) → FitWork L (mode_three p) room.db → IsDue L (spread (away w p) room) → IsSpelled L (spread (away w p) room) →
    MessageStep L third (spread (away w p) room) v' → Keeps L (away w p) room v'
third_step L laws w (at_two b) room v' fits d sp (s', h, e3) = absurd h
third_step L laws w (in_b line b t) room v' fits d sp (s', (act, e1, e2), e3) =
    taken L (away w (in_b line b t)) room third [] [] (turns_to (working3 t)) act s' v' e1 e2 e3
    (record { phase = away w (at_three line b t); room = room; is = refl; routed = λ h. h; fits = λ h. h; due = d; spelled = record { a = tt; b = tt; c = tt; d = tt; e = tt; f = sp.f; first_left = tt; last_right = tt; line = sp.line }; same = refl })
third_step L laws w (at_three line b t) room v' fits d sp (s', (act, room', (e1, e2), e3), e4) =
    processes L laws w line b t room v' (L.kind t) (L.outcome t room.db room.shelf) act room' s' d sp refl refl fits e1 e2 e3 e4
third_step L laws w (in_c line b x) room v' fits d sp (s', h, e3) = absurd h
third_step L laws w (at_four line b x) room v' fits d sp (s', h, e3) = absurd h
third_step L laws w (in_d line b r) room v' fits d sp (s', (act, e1, e2), e3) =
    taken L (away w (in_d line b r)) room third [] [] (says idle3 (said (replied r) ∷ [])) act s' v' e1 e2 e3
    (record { phase = away w (in_e_reply line b r); room = room; is = refl; routed = λ h. tt; fits = λ h. tt; due = d; spelled = record { a = tt; b = tt; c = tt; d = tt; e = sp.d; f = sp.f; first_left = tt; last_right = tt; line = sp.line }; same = refl })
third_step L laws w (in_e_tables line b ss) room v' fits d sp (s', h, e3) = absurd h
third_step L laws w (in_e_reply line b r) room v' fits d sp (s', h, e3) = absurd h
third_step L laws w in_f room v' fits d sp (s', h, e3) = absurd h

-- what stage 4 refuses is spelled: a tree, since a change is never refused
refusal_spelled : {S : Sorts} (L : Language S) (laws : Laws L) (x : Cargo S) (db : S.Db) (shelf : S.Shelf) (r : S.Refusal) → IsFit L x db → outcome_of L x db shelf ≡ refuses r → Spelled L (said (replied (refused r)))
refusal_spelled L laws (tree t) db shelf r fits e = laws.outcome_spelled t db shelf r fits e
refusal_spelled L laws (change c) db shelf r fits e = cc

-- stage 4 carries out
carries_out : {S : Sorts} (L : Language S) (laws : Laws L) (w : Front S) (line : ℕ) (b : S.Batch) (x : Cargo S) (room : Room S) (v' : MessageNetwork S) (outcome : Outcome S) (act : Act S) (room' : Room S) (s' : Beside S) →
    IsDue L (spread (away w (at_four line b x)) room) → IsSpelled L (spread (away w (at_four line b x)) room) → IsFit L x room.db → outcome_of L x room.db room.shelf ≡ outcome → CarriesOut room outcome act room' →
    s' ≡ acted (beside (spread (away w (at_four line b x)) room) fourth) act [] [] room' → v' ≡ put (spread (away w (at_four line b x)) room) fourth s' →
    Keeps L (away w (at_four line b x)) room v'
carries_out L laws w line b x room v' (tables ts) act room' s' d sp fits e j e3 e4 = absurd j
carries_out L laws w line b x room v' (made db shelf) act room' s' d sp fits e (j, e2) e3 e4 =
    worked L (away w (at_four line b x)) room fourth (says idle4 (said (replied done) ∷ [])) act (record { db = db; shelf = shelf; script = room.script; out = room.out }) room' s' v' j e2 e3 e4
    (record {
      phase = away w (in_d line b done);
      room = record { db = db; shelf = shelf; script = room.script; out = room.out };
      is = refl;
      routed = λ h. tt;
      fits = λ h. tt;
      due = simp append-nil (said_due L w (said (replied done) ∷ []) d (reply_anywhere L done [] tt));
      spelled = record { a = tt; b = tt; c = tt; d = (laws.done_spelled, tt); e = tt; f = sp.f; first_left = tt; last_right = tt; line = sp.line };
      same = rw e (simp append-nil (rw (say_more L room.out (begun (front_mode w.monitor w.open_head w.prints)) (kept (front_mode w.monitor w.open_head w.prints)) (map said w.coming) (said (replied done) ∷ []) _ (opens_reply L done [])) (simp append-nil)));
    })
carries_out L laws w line b x room v' (refuses r) act room' s' d sp fits e (j, e2) e3 e4 =
    worked L (away w (at_four line b x)) room fourth (says idle4 (said (replied (refused r)) ∷ [])) act room room' s' v' j e2 e3 e4
    (record {
      phase = away w (in_d line b (refused r));
      room = room;
      is = refl;
      routed = λ h. tt;
      fits = λ h. tt;
      due = simp append-nil (said_due L w (said (replied (refused (L.lined line r))) ∷ []) d (reply_anywhere L (refused (L.lined line r)) [] tt));
      spelled = record { a = tt; b = tt; c = tt; d = (refusal_spelled L laws x room.db room.shelf r fits e, tt); e = tt; f = sp.f; first_left = tt; last_right = tt; line = sp.line };
      same = rw e (simp append-nil (rw (say_more L room.out (begun (front_mode w.monitor w.open_head w.prints)) (kept (front_mode w.monitor w.open_head w.prints)) (map said w.coming) (said (replied (refused (L.lined line r))) ∷ []) _ (opens_reply L (refused (L.lined line r)) [])) (simp append-nil)));
    })

pub fourth_step : {S : Sorts} (L : Language S) (laws : Laws L) (w : Front S) (p : Place S) (room : Room S) (v' : MessageNetwork S) → FitWork L (mode_four p) room.db → IsDue L (spread (away w p) room) → IsSpelled L (spread (away w p) room) →
    MessageStep L fourth (spread (away w p) room) v' → Keeps L (away w p) room v'
fourth_step L laws w (at_two b) room v' fits d sp (s', h, e3) = absurd h
fourth_step L laws w (in_b line b t) room v' fits d sp (s', h, e3) = absurd h
fourth_step L laws w (at_three line b t) room v' fits d sp (s', h, e3) = absurd h
fourth_step L laws w (in_c line b x) room v' fits d sp (s', (act, e1, e2), e3) =
    taken L (away w (in_c line b x)) room fourth [] [] (turns_to (working4 x)) act s' v' (due (goes_to_four L x) (turns_to (working4 x)) act e1) e2 e3
    (record { phase = away w (at_four line b x); room = room; is = refl; routed = λ h. h; fits = λ h. h; due = d; spelled = record { a = tt; b = tt; c = tt; d = tt; e = tt; f = sp.f; first_left = tt; last_right = tt; line = sp.line }; same = refl })
fourth_step L laws w (at_four line b x) room v' fits d sp (s', (act, room', e1, e3), e4) =
    carries_out L laws w line b x room v' (outcome_of L x room.db room.shelf) act room' s' d sp fits.0 refl e1 e3 e4
fourth_step L laws w (in_d line b r) room v' fits d sp (s', h, e3) = absurd h
fourth_step L laws w (in_e_tables line b ss) room v' fits d sp (s', h, e3) = absurd h
fourth_step L laws w (in_e_reply line b r) room v' fits d sp (s', h, e3) = absurd h
fourth_step L laws w in_f room v' fits d sp (s', h, e3) = absurd h
