-- The steps of stage 2.
use Rattle.std.proofs.Common.{◌≡◌, ℕ, List, [], ◌∷◌, ◌++◌, map, refl, sym, append_assoc}
use Rattle.std.proofs.lemmas.List.{append-nil, map-append}
use Rattle.network_meaning.specs.Sorts.{Sorts, Cargo.tree, Reply, Said, Shown, Next, Meaning}
use Rattle.network_meaning.specs.Sorts.{Reply.done, Reply.refused, Said.shown, Said.replied, Message.cargo, Message.said, Message.end}
use Rattle.network_meaning.specs.Sorts.{Next.no_more, Next.bad, Next.found, Meaning.names, Meaning.objects, Meaning.runs}
use Rattle.network_meaning.specs.Language.{Language, after_next, after_meaning}
use Rattle.network_meaning.specs.Laws.{Laws}
use Rattle.network_meaning.specs.LocalSteps.{Mode.parsing, Mode.passing2, Mode.idle2, Act, Room, Parses, Checks, turns_to, says, hands, set_line}
use Rattle.network_meaning.specs.MessageNetwork.{MessageNetwork, Beside, StageNumber.second, beside, put, acted, MessageStep}
use Rattle.network_meaning.specs.Held.{kept, begun, with_line}
use Rattle.network_meaning.specs.Due.{IsDue}
use Rattle.network_meaning.specs.Spelled.{Spelled, IsLine, IsSpelled}
use Rattle.network_meaning.specs.Orderly.{Place, Front, Phase.away, spread, front_mode}
use Rattle.network_meaning.specs.Orderly.{Place.at_two, Place.in_b, Place.at_three, Place.in_c, Place.at_four, Place.in_d, Place.in_e_tables, Place.in_e_reply, Place.in_f}
use Rattle.network_meaning.proofs.Frames.{coming_more}
use Rattle.network_meaning.proofs.Keeps.{Keeps, taken, worked}
use Rattle.network_meaning.proofs.Due.{reply_anywhere, end_anywhere, said_due, passed_due, due_before}
use Rattle.network_meaning.proofs.Printing.{opens_end, opens_reply, say_more}

abbrev pub with : {S : Sorts} → Front S → List (Said S) → S.Ranges → Front S
with w more ranges = record { monitor = w.monitor; open_head = w.open_head; prints = w.prints; coming = w.coming ++ more; ranges = ranges }

-- a reply that is spelled, with the line that stage 2 sets
line_set : {S : Sorts} (L : Language S) (laws : Laws L) (line : ℕ) (r : Reply S) → IsLine L line → Spelled L (said (replied r)) → Spelled L (said (replied (set_line L line r)))
line_set L laws line done l h = h
line_set L laws line (refused r) l h = laws.line_spelled line r l h

-- the next statement
checks : {S : Sorts} (L : Language S) (laws : Laws L) (w : Front S) (old b : S.Batch) (line : ℕ) (s : S.Statement) (room : Room S) (v' : MessageNetwork S) (meaning : Meaning S) (act : Act S) (room' : Room S) (s' : Beside S) →
    IsLine L line → L.meaning room.db room.shelf w.ranges s ≡ meaning →
    IsDue L (spread (away w (at_two old)) room) → IsSpelled L (spread (away w (at_two old)) room) → L.batch_runs room.db room.shelf w.ranges old ≡ after_meaning L room.db room.shelf w.ranges line b meaning →
    Checks L room w.ranges line b meaning act → room' ≡ room →
    s' ≡ acted (beside (spread (away w (at_two old)) room) second) act [] [] room' → v' ≡ put (spread (away w (at_two old)) room) second s' →
    Keeps L (away w (at_two old)) room v'
checks L laws w old b line s room v' (names ranges') act room' s' il em d sp e j e2 e3 e4 =
    worked L (away w (at_two old)) room second (turns_to (parsing ranges' b)) act room room' s' v' j e2 e3 e4
    (record { phase = away (with w [] ranges') (at_two b); room = room; is = simp (append-nil); routed = λ h. tt; fits = λ h. tt; due = simp append-nil (simp append-nil at d); spelled = record { a = tt; b = tt; c = tt; d = tt; e = tt; f = coming_more L w.coming [] [] sp.f tt; first_left = tt; last_right = tt; line = tt }; same = rw e (simp append-nil) })
checks L laws w old b line s room v' (objects r) act room' s' il em d sp e j e2 e3 e4 =
    worked L (away w (at_two old)) room second (says (parsing w.ranges b) (said (replied (refused (L.lined line r))) ∷ [])) act room room' s' v' j e2 e3 e4
    (record {
      phase = away (with w (replied (refused (L.lined line r)) ∷ []) w.ranges) (at_two b);
      room = room;
      is = simp (append-nil, map-append);
      routed = λ h. tt;
      fits = λ h. tt;
      due = simp (append-nil, map-append) (said_due L w (said (replied (refused (L.lined line r))) ∷ []) d (reply_anywhere L (refused (L.lined line r)) [] tt));
      spelled = record { a = tt; b = tt; c = tt; d = tt; e = tt; f = coming_more L w.coming (replied (refused (L.lined line r)) ∷ []) [] sp.f (line_set L laws line (refused r) il (laws.objection_spelled room.db room.shelf w.ranges s r em), tt); first_left = tt; last_right = tt; line = tt };
      same = rw e (simp append-nil (rw (say_more L room.out (begun (front_mode w.monitor w.open_head w.prints)) (kept (front_mode w.monitor w.open_head w.prints)) (map said w.coming) (said (replied (refused (L.lined line r))) ∷ []) _ (opens_reply L (refused (L.lined line r)) [])) (simp (append-nil, append_assoc))));
    })
checks L laws w old b line s room v' (runs outcome) act room' s' il em d sp e (t, fits, e1, j) e2 e3 e4 =
    worked L (away w (at_two old)) room second (hands (passing2 w.ranges line b) (cargo (tree t))) act room room' s' v' j e2 e3 e4
    (record { phase = away (with w [] w.ranges) (in_b line b t); room = room; is = simp (append-nil); routed = λ h. tt; fits = λ h. fits; due = simp append-nil (simp append-nil at d); spelled = record { a = tt; b = (laws.tree_spelled t room.db fits, tt); c = tt; d = tt; e = tt; f = coming_more L w.coming [] [] sp.f tt; first_left = tt; last_right = tt; line = il }; same = rw (e, e1) (simp (append-nil, append_assoc)) })

parses : {S : Sorts} (L : Language S) (laws : Laws L) (w : Front S) (old : S.Batch) (room : Room S) (v' : MessageNetwork S) (next : Next S) (act : Act S) (room' : Room S) (s' : Beside S) →
    L.next old ≡ next → IsDue L (spread (away w (at_two old)) room) → IsSpelled L (spread (away w (at_two old)) room) → L.batch_runs room.db room.shelf w.ranges old ≡ after_next L room.db room.shelf w.ranges next →
    Parses L room w.ranges next act → room' ≡ room →
    s' ≡ acted (beside (spread (away w (at_two old)) room) second) act [] [] room' → v' ≡ put (spread (away w (at_two old)) room) second s' →
    Keeps L (away w (at_two old)) room v'
parses L laws w old room v' no_more act room' s' en d sp e j e2 e3 e4 =
    worked L (away w (at_two old)) room second (says (idle2 w.ranges) (end ∷ [])) act room room' s' v' j e2 e3 e4
    (record {
      phase = away (with w [] w.ranges) in_f;
      room = room;
      is = simp append-nil;
      routed = λ h. tt;
      fits = λ h. tt;
      due = simp append-nil (said_due L w (end ∷ []) d (end_anywhere L));
      spelled = record { a = tt; b = tt; c = tt; d = tt; e = tt; f = coming_more L w.coming [] (end ∷ []) sp.f (laws.end_spelled, tt); first_left = tt; last_right = tt; line = tt };
      same = rw e (simp append-nil (rw (say_more L room.out (begun (front_mode w.monitor w.open_head w.prints)) (kept (front_mode w.monitor w.open_head w.prints)) (map said w.coming) (end ∷ []) _ (opens_end L)) (simp (append-nil, append_assoc))));
    })
parses L laws w old room v' (bad r) act room' s' en d sp e j e2 e3 e4 =
    worked L (away w (at_two old)) room second (says (idle2 w.ranges) (said (replied (refused r)) ∷ end ∷ [])) act room room' s' v' j e2 e3 e4
    (record {
      phase = away (with w (replied (refused r) ∷ []) w.ranges) in_f;
      room = room;
      is = simp (append-nil, map-append, append_assoc);
      routed = λ h. tt;
      fits = λ h. tt;
      due = simp (append-nil, map-append, append_assoc) (said_due L w (said (replied (refused r)) ∷ end ∷ []) d (reply_anywhere L (refused r) (end ∷ []) tt));
      spelled = record { a = tt; b = tt; c = tt; d = tt; e = tt; f = coming_more L w.coming (replied (refused r) ∷ []) (end ∷ []) sp.f (laws.syntax_spelled old r en, (laws.end_spelled, tt)); first_left = tt; last_right = tt; line = tt };
      same = rw e (simp append-nil (rw (say_more L room.out (begun (front_mode w.monitor w.open_head w.prints)) (kept (front_mode w.monitor w.open_head w.prints)) (map said w.coming) (said (replied (refused r)) ∷ end ∷ []) _ (opens_reply L (refused r) (end ∷ []))) (simp (append-nil, append_assoc))));
    })
parses L laws w old room v' (found s line b) act room' s' en d sp e j e2 e3 e4 =
    checks L laws w old b line s room v' (L.meaning room.db room.shelf w.ranges s) act room' s' (record { batch = old; statement = s; later = b; is = en }) refl d sp e j e2 e3 e4

-- stage 2 passes on what comes from the right
passes : {S : Sorts} (L : Language S) (w : Front S) (line : ℕ) (b : S.Batch) (ss : List (Shown S)) (room : Room S) (v' : MessageNetwork S) →
    IsDue L (spread (away w (in_e_tables line b ss)) room) → IsSpelled L (spread (away w (in_e_tables line b ss)) room) → MessageStep L second (spread (away w (in_e_tables line b ss)) room) v' → Keeps L (away w (in_e_tables line b ss)) room v'
passes L w line b [] room v' d sp (s', (act, e1, e2), e3) =
    taken L (away w (in_e_tables line b [])) room second [] [] (turns_to (parsing w.ranges b)) act s' v' e1 e2 e3
    (record {
      phase = away (with w [] w.ranges) (at_two b);
      room = room;
      is = simp append-nil;
      routed = λ h. tt;
      fits = λ h. tt;
      due = simp append-nil (due_before L (begun (front_mode w.monitor w.open_head w.prints)) (kept (front_mode w.monitor w.open_head w.prints) ++ map said w.coming) (end ∷ []) (simp append_assoc (simp append-nil at d)));
      spelled = record { a = tt; b = tt; c = tt; d = tt; e = tt; f = coming_more L w.coming [] [] sp.f tt; first_left = tt; last_right = tt; line = tt };
      same = simp append-nil (sym (rw (say_more L room.out (begun (front_mode w.monitor w.open_head w.prints)) (kept (front_mode w.monitor w.open_head w.prints)) (map said w.coming) (end ∷ []) _ (opens_end L)) (simp (append-nil, append_assoc))));
    })
passes {S} L w line b (s ∷ ss) room v' d sp (s', (act, e1, e2), e3) =
    taken L (away w (in_e_tables line b (s ∷ ss))) room second [] (map (λ s. said (shown s)) ss ++ end ∷ []) (says (passing2 w.ranges line b) (said (shown s) ∷ [])) act s' v' e1 e2 e3
    (record {
      phase = away (with w (shown s ∷ []) w.ranges) (in_e_tables line b ss);
      room = room;
      is = simp (append-nil, map-append);
      routed = λ h. tt;
      fits = λ h. tt;
      due = passed_due L w (shown s) (map (with_line L line) ((map (λ (s : Shown S). said (shown s)) ss ++ end ∷ []) ++ [])) d;
      spelled = record { a = tt; b = tt; c = tt; d = tt; e = sp.e.1; f = coming_more L w.coming (shown s ∷ []) [] sp.f (sp.e.0, tt); first_left = tt; last_right = tt; line = sp.line };
      same = rw (append_assoc (map said w.coming ++ []) (said (shown s) ∷ []) (map (with_line L line) ((map (λ (s : Shown S). said (shown s)) ss ++ end ∷ []) ++ []))) refl;
    })

pub second_step : {S : Sorts} (L : Language S) (laws : Laws L) (w : Front S) (p : Place S) (room : Room S) (v' : MessageNetwork S) → IsDue L (spread (away w p) room) → IsSpelled L (spread (away w p) room) →
    MessageStep L second (spread (away w p) room) v' → Keeps L (away w p) room v'
second_step L laws w (at_two b) room v' d sp (s', (act, room', (e1, e2), e3), e4) =
    parses L laws w b room v' (L.next b) act room' s' refl d sp (laws.batch room.db room.shelf w.ranges b) e1 e2 e3 e4
second_step L laws w (in_b line b t) room v' d sp (s', h, e3) = absurd h
second_step L laws w (at_three line b t) room v' d sp (s', h, e3) = absurd h
second_step L laws w (in_c line b x) room v' d sp (s', h, e3) = absurd h
second_step L laws w (at_four line b x) room v' d sp (s', h, e3) = absurd h
second_step L laws w (in_d line b r) room v' d sp (s', h, e3) = absurd h
second_step L laws w (in_e_tables line b ss) room v' d sp h = passes L w line b ss room v' d sp h
second_step L laws w (in_e_reply line b r) room v' d sp (s', (act, e1, e2), e3) =
    taken L (away w (in_e_reply line b r)) room second [] [] (says (parsing w.ranges b) (said (replied (set_line L line r)) ∷ [])) act s' v' e1 e2 e3
    (record { phase = away (with w (replied (set_line L line r) ∷ []) w.ranges) (at_two b); room = room; is = simp (append-nil, map-append); routed = λ h. tt; fits = λ h. tt; due = passed_due L w (replied (set_line L line r)) [] d; spelled = record { a = tt; b = tt; c = tt; d = tt; e = tt; f = coming_more L w.coming (replied (set_line L line r) ∷ []) [] sp.f (line_set L laws line r sp.line sp.e.0, tt); first_left = tt; last_right = tt; line = tt }; same = simp (append-nil, append_assoc) })
second_step L laws w in_f room v' d sp (s', h, e3) = absurd h
