-- Order follows from the shape of the work: a step of messages in which work has its shape leads from a phase to a phase.
use Rattle.std.proofs.Common.{◌≡◌, ◌⊎◌, inl, inr, ℕ, List, [], ◌∷◌, ◌++◌, Some, None, map, refl, sym, subst, ◌∙◌, append_assoc, ◌≤◌, ◌+◌}
use Rattle.std.proofs.lemmas.List.{append-nil, map-append}
use Rattle.std.specs.declared.option.Option.{Option}
use Rattle.network_meaning.specs.Sorts.{Sorts, Cargo, Said, Shown, Next, Event, Kind}
use Rattle.network_meaning.specs.Sorts.{Cargo.tree, Cargo.change, Reply.done, Reply.refused, Said.shown, Said.replied, Message.said, Message.end, Next.no_more, Next.bad, Next.found, Event.goes_on, Event.sends, Event.leaves, Kind.answer, Kind.update, Kind.utility}
use Rattle.network_meaning.specs.Language.{Language}
use Rattle.network_meaning.specs.Laws.{Laws}
use Rattle.network_meaning.specs.LocalSteps.{Mode, Want, Act, Room, want_of, all_shown, open_after, read_act, says}
use Rattle.network_meaning.specs.LocalSteps.{Mode.printing, Mode.idle3, Mode.working3, Mode.idle4, Mode.working4}
use Rattle.network_meaning.specs.LocalSteps.{Want.take_left, Want.take_right, Want.give_left, Want.give_right, Want.work, Want.none}
use Rattle.network_meaning.specs.Lawful.{FitWork}
use Rattle.network_meaning.specs.MessageNetwork.{MessageNetwork, Beside, MovesBy, beside, put, acted, StageNumber, StageNumber.first, StageNumber.second, StageNumber.third, StageNumber.fourth}
use Rattle.network_meaning.specs.Network.{Network, Shows}
use Rattle.network_meaning.specs.Due.{IsDue}
use Rattle.network_meaning.specs.Spelled.{IsLine, IsSpelled}
use Rattle.network_meaning.specs.Orderly.{Phase, Place, Front, front_mode, spread, RoutedPhase, Phase.reads, Phase.closes, Phase.sends, Phase.away, Phase.quits_a, Phase.quits_b, Phase.quits_c, Phase.over}
use Rattle.network_meaning.specs.Orderly.{Place.at_two, Place.in_b, Place.at_three, Place.in_c, Place.at_four, Place.in_d, Place.in_e_tables, Place.in_e_reply, Place.in_f}
use Rattle.network_meaning.specs.WorkLeft.{frames_in}
use Rattle.network_meaning.specs.WorkShape.{RefusalShape, CheckShape, ParseShape, ProcessShape, CarryShape, ReadShape, SendsSpelled, WorkShape, WorksInShape}
use Rattle.network_meaning.specs.WorkShape.{CheckShape.names, CheckShape.objects, CheckShape.runs, AnswerShape.tables, AnswerShape.refuses as answer_refused, UpdateShape.changes, UpdateShape.refuses as update_refused, UtilityShape.does, UtilityShape.refuses as utility_refused}
use Rattle.network_meaning.proofs.Due.{reply_anywhere, tables_anywhere, end_anywhere, said_due}
use Rattle.network_meaning.proofs.First.{step_keeps}
use Rattle.network_meaning.proofs.Frames.{coming_more, each-append}
use Rattle.network_meaning.proofs.Keeps.{Keeps}
use Rattle.network_meaning.proofs.Printing.{lines_kept}
use Rattle.network_meaning.proofs.Second.{with}
use Rattle.network_meaning.proofs.Whole.{Moved, NextBy, Placed, room_spread}

-- the messages are those of a phase, and what goes to stage 4 is right where it was so
pub record Leads {S : Sorts} (L : Language S) (old : Phase S) (v : MessageNetwork S) : Type 0 where
  pub phase : Phase S
  pub room : Room S
  pub is : v ≡ spread phase room
  pub routed : RoutedPhase L old → RoutedPhase L phase
  pub due : IsDue L (spread phase room)
  pub spelled : IsSpelled L (spread phase room)

-- what work leaves of a phase, where its act is this
abbrev behind : {S : Sorts} → Phase S → Room S → StageNumber → Act S → MessageNetwork S
behind p room k act = put (spread p room) k (acted (beside (spread p room) k) act (beside (spread p room) k).left_in (beside (spread p room) k).right_in room)

-- ---- stage 1

read_leads : {S : Sorts} (L : Language S) (laws : Laws L) (m : S.Monitor) (ranges : S.Ranges) (room : Room S) (act : Act S) → ReadShape L act → Leads L (reads m ranges) (behind (reads m ranges) room first act)
read_leads {S} L laws m ranges room act h = go h.event h.spelled h.is
  where
    go : (event : Event S) → SendsSpelled L event → act ≡ read_act h.monitor event → Leads L (reads m ranges) (behind (reads m ranges) room first act)
    go goes_on sp e = rw e (record { phase = reads h.monitor ranges; room = room; is = refl; routed = λ h. tt; due = tt; spelled = record { a = tt; b = tt; c = tt; d = tt; e = tt; f = tt; first_left = tt; last_right = tt; line = tt } })
    go (sends t) sp e = rw e (record { phase = sends h.monitor ranges t; room = room; is = refl; routed = λ h. tt; due = tt; spelled = record { a = (sp, tt); b = tt; c = tt; d = tt; e = tt; f = tt; first_left = tt; last_right = tt; line = tt } })
    go leaves sp e = rw e (record { phase = quits_a ranges; room = room; is = refl; routed = λ h. tt; due = tt; spelled = record { a = (laws.quit_spelled, tt); b = tt; c = tt; d = tt; e = tt; f = tt; first_left = tt; last_right = tt; line = tt } })

-- ---- stage 2

check_leads : {S : Sorts} (L : Language S) (w : Front S) (old b : S.Batch) (line : ℕ) (room : Room S) (act : Act S) → IsLine L line → IsDue L (spread (away w (at_two old)) room) → IsSpelled L (spread (away w (at_two old)) room) →
    CheckShape L w.ranges line b act → Leads L (away w (at_two old)) (behind (away w (at_two old)) room second act)
check_leads L w old b line room act il d sp (names ranges' e) =
    rw e (record { phase = away (with w [] ranges') (at_two b); room = room; is = simp append-nil; routed = λ h. tt; due = simp append-nil (simp append-nil at d); spelled = record { a = tt; b = tt; c = tt; d = tt; e = tt; f = coming_more L w.coming [] [] sp.f tt; first_left = tt; last_right = tt; line = tt } })
check_leads L w old b line room act il d sp (objects r known e) =
    rw e (record {
      phase = away (with w (replied (refused (L.lined line r)) ∷ []) w.ranges) (at_two b);
      room = room;
      is = simp (append-nil, map-append);
      routed = λ h. tt;
      due = simp (append-nil, map-append) (said_due L w (said (replied (refused (L.lined line r))) ∷ []) d (reply_anywhere L (refused (L.lined line r)) [] tt));
      spelled = record { a = tt; b = tt; c = tt; d = tt; e = tt; f = coming_more L w.coming (replied (refused (L.lined line r)) ∷ []) [] sp.f (known, tt); first_left = tt; last_right = tt; line = tt };
    })
check_leads L w old b line room act il d sp (runs t known e) =
    rw e (record { phase = away (with w [] w.ranges) (in_b line b t); room = room; is = simp append-nil; routed = λ h. tt; due = simp append-nil (simp append-nil at d); spelled = record { a = tt; b = (known, tt); c = tt; d = tt; e = tt; f = coming_more L w.coming [] [] sp.f tt; first_left = tt; last_right = tt; line = il } })

parse_leads : {S : Sorts} (L : Language S) (laws : Laws L) (w : Front S) (old : S.Batch) (room : Room S) (next : Next S) (act : Act S) → L.next old ≡ next → IsDue L (spread (away w (at_two old)) room) → IsSpelled L (spread (away w (at_two old)) room) →
    ParseShape L w.ranges next act → Leads L (away w (at_two old)) (behind (away w (at_two old)) room second act)
parse_leads L laws w old room no_more act en d sp e =
    rw e (record {
      phase = away (with w [] w.ranges) in_f;
      room = room;
      is = simp append-nil;
      routed = λ h. tt;
      due = simp append-nil (said_due L w (end ∷ []) d (end_anywhere L));
      spelled = record { a = tt; b = tt; c = tt; d = tt; e = tt; f = coming_more L w.coming [] (end ∷ []) sp.f (laws.end_spelled, tt); first_left = tt; last_right = tt; line = tt };
    })
parse_leads L laws w old room (bad r) act en d sp e =
    rw e (record {
      phase = away (with w (replied (refused r) ∷ []) w.ranges) in_f;
      room = room;
      is = simp (append-nil, map-append, append_assoc);
      routed = λ h. tt;
      due = simp (append-nil, map-append, append_assoc) (said_due L w (said (replied (refused r)) ∷ end ∷ []) d (reply_anywhere L (refused r) (end ∷ []) tt));
      spelled = record { a = tt; b = tt; c = tt; d = tt; e = tt; f = coming_more L w.coming (replied (refused r) ∷ []) (end ∷ []) sp.f (laws.syntax_spelled old r en, (laws.end_spelled, tt)); first_left = tt; last_right = tt; line = tt };
    })
parse_leads L laws w old room (found s line b) act en d sp h = check_leads L w old b line room act (record { batch = old; statement = s; later = b; is = en }) d sp h

-- ---- stage 3

third_refused : {S : Sorts} (L : Language S) (w : Front S) (line : ℕ) (b : S.Batch) (t : S.Tree) (room : Room S) (act : Act S) → IsDue L (spread (away w (at_three line b t)) room) → IsSpelled L (spread (away w (at_three line b t)) room) →
    RefusalShape L idle3 act → Leads L (away w (at_three line b t)) (behind (away w (at_three line b t)) room third act)
third_refused L w line b t room act d sp h =
    rw h.is (record { phase = away w (in_e_reply line b (refused h.refusal)); room = room; is = refl; routed = λ h. tt; due = simp append-nil (said_due L w (said (replied (refused (L.lined line h.refusal))) ∷ []) d (reply_anywhere L (refused (L.lined line h.refusal)) [] tt)); spelled = record { a = tt; b = tt; c = tt; d = tt; e = (h.spelled, tt); f = sp.f; first_left = tt; last_right = tt; line = sp.line } })

process_leads : {S : Sorts} (L : Language S) (laws : Laws L) (w : Front S) (line : ℕ) (b : S.Batch) (t : S.Tree) (room : Room S) (kind : Kind) (act : Act S) → L.kind t ≡ kind → IsDue L (spread (away w (at_three line b t)) room) → IsSpelled L (spread (away w (at_three line b t)) room) →
    ProcessShape L t kind act → Leads L (away w (at_three line b t)) (behind (away w (at_three line b t)) room third act)
process_leads {S} L laws w line b t room answer act ek d sp (tables ts tops fit known e) =
    rw e (record {
      phase = away w (in_e_tables line b (all_shown ts));
      room = room;
      is = refl;
      routed = λ h. tt;
      due = simp append-nil (rw (lines_kept L line (all_shown ts) (end ∷ [])) (said_due L w (map (λ (s : Shown S). said (shown s)) (all_shown ts) ++ end ∷ []) d (tables_anywhere L ts fit)));
      spelled = record { a = tt; b = tt; c = tt; d = tt; e = each-append L (map (λ (s : Shown S). said (shown s)) (all_shown ts)) (end ∷ []) known (laws.end_spelled, tt); f = sp.f; first_left = tt; last_right = tt; line = sp.line };
    })
process_leads L laws w line b t room answer act ek d sp (answer_refused h) = third_refused L w line b t room act d sp h
process_leads L laws w line b t room update act ek d sp (changes c known e) =
    rw e (record { phase = away w (in_c line b (change c)); room = room; is = refl; routed = λ h. refl; due = d; spelled = record { a = tt; b = tt; c = (known, tt); d = tt; e = tt; f = sp.f; first_left = tt; last_right = tt; line = sp.line } })
process_leads L laws w line b t room update act ek d sp (update_refused h) = third_refused L w line b t room act d sp h
process_leads L laws w line b t room utility act ek d sp (known, e) =
    rw e (record { phase = away w (in_c line b (tree t)); room = room; is = refl; routed = λ h. rw ek refl; due = d; spelled = record { a = tt; b = tt; c = (known, tt); d = tt; e = tt; f = sp.f; first_left = tt; last_right = tt; line = sp.line } })

-- ---- stage 4

done_leads : {S : Sorts} (L : Language S) (laws : Laws L) (w : Front S) (line : ℕ) (b : S.Batch) (x : Cargo S) (room : Room S) (act : Act S) → IsDue L (spread (away w (at_four line b x)) room) → IsSpelled L (spread (away w (at_four line b x)) room) →
    act ≡ says idle4 (said (replied done) ∷ []) → Leads L (away w (at_four line b x)) (behind (away w (at_four line b x)) room fourth act)
done_leads L laws w line b x room act d sp e =
    rw e (record { phase = away w (in_d line b done); room = room; is = refl; routed = λ h. tt; due = simp append-nil (said_due L w (said (replied done) ∷ []) d (reply_anywhere L done [] tt)); spelled = record { a = tt; b = tt; c = tt; d = (laws.done_spelled, tt); e = tt; f = sp.f; first_left = tt; last_right = tt; line = sp.line } })

carry_leads : {S : Sorts} (L : Language S) (laws : Laws L) (w : Front S) (line : ℕ) (b : S.Batch) (x : Cargo S) (room : Room S) (act : Act S) → IsDue L (spread (away w (at_four line b x)) room) → IsSpelled L (spread (away w (at_four line b x)) room) →
    CarryShape L x act → Leads L (away w (at_four line b x)) (behind (away w (at_four line b x)) room fourth act)
carry_leads L laws w line b (change c) room act d sp e = done_leads L laws w line b (change c) room act d sp e
carry_leads L laws w line b (tree t) room act d sp (does e) = done_leads L laws w line b (tree t) room act d sp e
carry_leads L laws w line b (tree t) room act d sp (utility_refused h) =
    rw h.is (record { phase = away w (in_d line b (refused h.refusal)); room = room; is = refl; routed = λ h. tt; due = simp append-nil (said_due L w (said (replied (refused (L.lined line h.refusal))) ∷ []) d (reply_anywhere L (refused (L.lined line h.refusal)) [] tt)); spelled = record { a = tt; b = tt; c = tt; d = (h.spelled, tt); e = tt; f = sp.f; first_left = tt; last_right = tt; line = sp.line } })

-- ---- each stage

front_leads : {S : Sorts} (L : Language S) (m : S.Monitor) (o : Option S.Head) (prints : Option (Said S)) (coming : List (Said S)) (ranges : S.Ranges) (p : Place S) (room : Room S) (act : Act S) →
    IsDue L (spread (away (record { monitor = m; open_head = o; prints = prints; coming = coming; ranges = ranges }) p) room) →
    IsSpelled L (spread (away (record { monitor = m; open_head = o; prints = prints; coming = coming; ranges = ranges }) p) room) → WorkShape L (front_mode m o prints) act →
    Leads L (away (record { monitor = m; open_head = o; prints = prints; coming = coming; ranges = ranges }) p) (behind (away (record { monitor = m; open_head = o; prints = prints; coming = coming; ranges = ranges }) p) room first act)
front_leads L m o None coming ranges p room act d sp h = absurd h
front_leads L m o (Some s) coming ranges p room act d sp e =
    rw e (record { phase = away (record { monitor = m; open_head = open_after o s; prints = None; coming = coming; ranges = ranges }) p; room = room; is = refl; routed = λ h. h; due = d.1; spelled = record { a = sp.a; b = sp.b; c = sp.c; d = sp.d; e = sp.e; f = sp.f; first_left = tt; last_right = tt; line = sp.line } })

-- work of its shape leads from a phase to a phase
work_leads : {S : Sorts} (L : Language S) (laws : Laws L) (p : Phase S) (room : Room S) (k : StageNumber) (act : Act S) → IsDue L (spread p room) → IsSpelled L (spread p room) → WorkShape L (beside (spread p room) k).mode act → Leads L p (behind p room k act)
work_leads L laws (reads m ranges) room first act d sp h = read_leads L laws m ranges room act h
work_leads L laws (closes m o ranges) room first act d sp e =
    rw e (record { phase = reads m ranges; room = room; is = refl; routed = λ h. tt; due = tt; spelled = record { a = tt; b = tt; c = tt; d = tt; e = tt; f = tt; first_left = tt; last_right = tt; line = tt } })
work_leads L laws (away w p) room first act d sp h = front_leads L w.monitor w.open_head w.prints w.coming w.ranges p room act d sp h
work_leads L laws (away w (at_two b)) room second act d sp h = parse_leads L laws w b room (L.next b) act refl d sp h
work_leads L laws (away w (at_three line b t)) room third act d sp h = process_leads L laws w line b t room (L.kind t) act refl d sp h
work_leads L laws (away w (at_four line b x)) room fourth act d sp h = carry_leads L laws w line b x room act d sp h
work_leads L laws (reads m ranges) room second act d sp h = absurd h
work_leads L laws (reads m ranges) room third act d sp h = absurd h
work_leads L laws (reads m ranges) room fourth act d sp h = absurd h
work_leads L laws (closes m o ranges) room second act d sp h = absurd h
work_leads L laws (closes m o ranges) room third act d sp h = absurd h
work_leads L laws (closes m o ranges) room fourth act d sp h = absurd h
work_leads L laws (sends m ranges t) room first act d sp h = absurd h
work_leads L laws (sends m ranges t) room second act d sp h = absurd h
work_leads L laws (sends m ranges t) room third act d sp h = absurd h
work_leads L laws (sends m ranges t) room fourth act d sp h = absurd h
work_leads L laws (quits_a ranges) room first act d sp h = absurd h
work_leads L laws (quits_a ranges) room second act d sp h = absurd h
work_leads L laws (quits_a ranges) room third act d sp h = absurd h
work_leads L laws (quits_a ranges) room fourth act d sp h = absurd h
work_leads L laws quits_b room first act d sp h = absurd h
work_leads L laws quits_b room second act d sp h = absurd h
work_leads L laws quits_b room third act d sp h = absurd h
work_leads L laws quits_b room fourth act d sp h = absurd h
work_leads L laws quits_c room first act d sp h = absurd h
work_leads L laws quits_c room second act d sp h = absurd h
work_leads L laws quits_c room third act d sp h = absurd h
work_leads L laws quits_c room fourth act d sp h = absurd h
work_leads L laws over room first act d sp h = absurd h
work_leads L laws over room second act d sp h = absurd h
work_leads L laws over room third act d sp h = absurd h
work_leads L laws over room fourth act d sp h = absurd h
work_leads L laws (away w (in_b line b t)) room second act d sp h = absurd h
work_leads L laws (away w (at_three line b t)) room second act d sp h = absurd h
work_leads L laws (away w (in_c line b x)) room second act d sp h = absurd h
work_leads L laws (away w (at_four line b x)) room second act d sp h = absurd h
work_leads L laws (away w (in_d line b r)) room second act d sp h = absurd h
work_leads L laws (away w (in_e_tables line b ss)) room second act d sp h = absurd h
work_leads L laws (away w (in_e_reply line b r)) room second act d sp h = absurd h
work_leads L laws (away w in_f) room second act d sp h = absurd h
work_leads L laws (away w (at_two b)) room third act d sp h = absurd h
work_leads L laws (away w (in_b line b t)) room third act d sp h = absurd h
work_leads L laws (away w (in_c line b x)) room third act d sp h = absurd h
work_leads L laws (away w (at_four line b x)) room third act d sp h = absurd h
work_leads L laws (away w (in_d line b r)) room third act d sp h = absurd h
work_leads L laws (away w (in_e_tables line b ss)) room third act d sp h = absurd h
work_leads L laws (away w (in_e_reply line b r)) room third act d sp h = absurd h
work_leads L laws (away w in_f) room third act d sp h = absurd h
work_leads L laws (away w (at_two b)) room fourth act d sp h = absurd h
work_leads L laws (away w (in_b line b t)) room fourth act d sp h = absurd h
work_leads L laws (away w (at_three line b t)) room fourth act d sp h = absurd h
work_leads L laws (away w (in_c line b x)) room fourth act d sp h = absurd h
work_leads L laws (away w (in_d line b r)) room fourth act d sp h = absurd h
work_leads L laws (away w (in_e_tables line b ss)) room fourth act d sp h = absurd h
work_leads L laws (away w (in_e_reply line b r)) room fourth act d sp h = absurd h
work_leads L laws (away w in_f) room fourth act d sp h = absurd h

-- ---- a step

-- at a mode that is no work nothing has to be fit
not_work : {S : Sorts} (L : Language S) (mode : Mode S) (db : S.Db) → (want_of mode ≡ work → ⊥) → FitWork L mode db
not_work L (printing m o x) db n = absurd (n refl)
not_work L (working3 t) db n = absurd (n refl)
not_work L (working4 x) db n = absurd (n refl)
not_work L _ db n = tt

of_keeps : {S : Sorts} (L : Language S) (p : Phase S) (room : Room S) (v : MessageNetwork S) → Keeps L p room v → Leads L p v
of_keeps L p room v k = record { phase = k.phase; room = k.room; is = k.is; routed = k.routed; due = k.due; spelled = k.spelled }

leads_by : {S : Sorts} (L : Language S) (laws : Laws L) (p : Phase S) (room : Room S) (k : StageNumber) (v' : MessageNetwork S) (s' : Beside S) (w : Want) → want_of (beside (spread p room) k).mode ≡ w → (beside (spread p room) k).room ≡ room →
    IsDue L (spread p room) → IsSpelled L (spread p room) → MovesBy (WorksInShape L) L (beside (spread p room) k) w s' → v' ≡ put (spread p room) k s' → Leads L p v'
leads_by {S} L laws p room k v' s' work ew er d sp (act, room', (h, e1), e2) e3 =
    let left : s' ≡ acted (beside (spread p room) k) act (beside (spread p room) k).left_in (beside (spread p room) k).right_in room =
    subst (λ (r : Room S). s' ≡ acted (beside (spread p room) k) act (beside (spread p room) k).left_in (beside (spread p room) k).right_in r) (e1 ∙ er) e2 in
    let is : v' ≡ behind p room k act = subst (λ (x : Beside S). v' ≡ put (spread p room) k x) left e3 in
    subst (λ (x : MessageNetwork S). Leads L p x) (sym is) (work_leads L laws p room k act d sp h)
leads_by L laws p room k v' s' take_left ew er d sp h e = of_keeps L p room v' (step_keeps L laws p room k v' (not_work L (beside (spread p room) k).mode room.db (λ x. cc)) d sp (s', rw ew h, e))
leads_by L laws p room k v' s' take_right ew er d sp h e = of_keeps L p room v' (step_keeps L laws p room k v' (not_work L (beside (spread p room) k).mode room.db (λ x. cc)) d sp (s', rw ew h, e))
leads_by L laws p room k v' s' give_left ew er d sp h e = absurd h
leads_by L laws p room k v' s' give_right ew er d sp h e = absurd h
leads_by L laws p room k v' s' none ew er d sp h e = absurd h

beside_room : {S : Sorts} (v : MessageNetwork S) (k : StageNumber) → (beside v k).room ≡ v.room
beside_room v first = refl
beside_room v second = refl
beside_room v third = refl
beside_room v fourth = refl

placed_by : {S : Sorts} (L : Language S) (laws : Laws L) (k : StageNumber) (n n' : Network S) (o : Placed L n) (now : MessageNetwork S) → Shows L n' now →
    (((now ≡ spread o.phase n.room) × (1 + frames_in n' ≤ frames_in n)) ⊎ Moved (WorksInShape L) L k (spread o.phase n.room) n n' now) → Placed L n'
placed_by {S} L laws k n n' o now h (inl (e, fewer)) =
    let h' : Shows L n' (spread o.phase n.room) = subst (λ v. Shows L n' v) e h in
    let er : n.room ≡ n'.room = sym (room_spread o.phase n.room) ∙ h'.room in
    record { phase = o.phase; routed = o.routed; due = subst (λ r. IsDue L (spread o.phase r)) er o.due; spelled = subst (λ r. IsSpelled L (spread o.phase r)) er o.spelled; shows = subst (λ r. Shows L n' (spread o.phase r)) er h' }
placed_by {S} L laws k n n' o now h (inr ((s', st, e), fewer, wants)) =
    let leads : Leads L o.phase now = leads_by L laws o.phase n.room k now s' (want_of (beside (spread o.phase n.room) k).mode) refl (beside_room (spread o.phase n.room) k ∙ room_spread o.phase n.room) o.due o.spelled st e in
    let h' : Shows L n' (spread leads.phase leads.room) = subst (λ v. Shows L n' v) leads.is h in
    let er : leads.room ≡ n'.room = sym (room_spread leads.phase leads.room) ∙ h'.room in
    record { phase = leads.phase; routed = leads.routed o.routed; due = subst (λ r. IsDue L (spread leads.phase r)) er leads.due; spelled = subst (λ r. IsSpelled L (spread leads.phase r)) er leads.spelled; shows = subst (λ r. Shows L n' (spread leads.phase r)) er h' }

-- behind a step in which work has its shape the network stands by a phase again
pub shape_placed : {S : Sorts} (L : Language S) (laws : Laws L) (k : StageNumber) (n n' : Network S) (o : Placed L n) → NextBy (WorksInShape L) L k (spread o.phase n.room) n n' → Placed L n'
shape_placed L laws k n n' o next = placed_by L laws k n n' o next.now next.shows next.step
