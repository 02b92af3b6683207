-- Each step of messages lowers what is left.
use Rattle.std.proofs.Common.{◌≡◌, ◌≤◌, ◌+◌, ℕ, List, [], ◌∷◌, ◌++◌, Some, map, refl, arith, length-append}
use Rattle.std.proofs.lemmas.List.{append-nil}
use Rattle.network_meaning.specs.Sorts.{Sorts, Cargo, Cargo.tree, Cargo.change, Message, Shown, Next, Meaning, Outcome, Outcome.tables, Outcome.made, Outcome.refuses, Kind, Kind.answer, Kind.update, Kind.utility}
use Rattle.network_meaning.specs.Sorts.{Reply.done, Reply.refused, Said.shown, Said.replied, Message.cargo, Message.said, Message.end, Next.no_more, Next.bad, Next.found, Meaning.names, Meaning.objects, Meaning.runs}
use Rattle.network_meaning.specs.Language.{Language, after_next, after_meaning}
use Rattle.network_meaning.specs.Laws.{Laws}
use Rattle.network_meaning.specs.LocalSteps.{Mode.idle3, Mode.working3, Mode.working4, Mode.passing3, Mode.idle4, Mode.idle2, Mode.parsing, Mode.passing2, Act, Room, Processes, CarriesOut, Checks, Parses, turns_to, says, hands, outcome_of, all_shown, goes_to_four}
use Rattle.network_meaning.specs.MessageNetwork.{MessageNetwork, Beside, StageNumber, StageNumber.second, StageNumber.third, StageNumber.fourth, beside, put, acted, MessageStep}
use Rattle.network_meaning.specs.Held.{with_line}
use Rattle.network_meaning.specs.WorkLeft.{Work, WorkLaws, size, count, e_cost, d_cost, Lowers, next_work, meaning_work}
use Rattle.network_meaning.specs.Orderly.{Place, Front, Phase.away, spread, FitPlace}
use Rattle.network_meaning.specs.Orderly.{Place.at_two, Place.in_b, Place.at_three, Place.in_c, Place.at_four, Place.in_d, Place.in_e_tables, Place.in_e_reply, Place.in_f}
use Rattle.network_meaning.proofs.Keeps.{due}

pub size-append : {S : Sorts} (L : Language S) (xs ys : List (Message S)) → size L (xs ++ ys) ≡ size L xs + size L ys
size-append L [] ys = omega arith
size-append L (x ∷ xs) ys = let h : size L (xs ++ ys) ≡ size L xs + size L ys = size-append L xs ys in omega arith

e_le_d : {S : Sorts} (L : Language S) (line : ℕ) (xs : List (Message S)) → e_cost L line xs ≤ d_cost L line xs
e_le_d L line [] = omega arith
e_le_d L line (x ∷ xs) = let h : e_cost L line xs ≤ d_cost L line xs = e_le_d L line xs in omega arith

pub done_by : {S : Sorts} (L : Language S) (W : Work L) (k : StageNumber) (v : MessageNetwork S) (known act : Act S) (left right : List (Message S)) (new room' : Room S) (s' : Beside S) (v' : MessageNetwork S) →
    act ≡ known → room' ≡ new → s' ≡ acted (beside v k) act left right room' → v' ≡ put v k s' →
    Lowers L W k v (put v k (acted (beside v k) known left right new)) → Lowers L W k v v'
done_by L W k v known act left right new room' s' v' e1 e2 e3 e4 h = rw e4 (rw e3 (rw (e1, e2) h))

processes : {S : Sorts} (L : Language S) (W : Work L) (laws : WorkLaws L W) (w : Front S) (line : ℕ) (b : S.Batch) (t : S.Tree) (room : Room S) (v' : MessageNetwork S) (kind : Kind) (outcome : Outcome S) (act : Act S) (room' : Room S) (s' : Beside S) →
    L.outcome t room.db room.shelf ≡ outcome → L.Fits t room.db →
    Processes L room t kind outcome act → room' ≡ room →
    s' ≡ acted (beside (spread (away w (at_three line b t)) room) third) act [] [] room' → v' ≡ put (spread (away w (at_three line b t)) room) third s' →
    Lowers L W third (spread (away w (at_three line b t)) room) v'
processes {S} L W laws w line b t room v' answer (tables ts) act room' s' e fits j e2 e3 e4 =
    let xs : List (Message S) = map (λ (s : Shown S). said (shown s)) (all_shown ts) ++ end ∷ [] in
    let le : e_cost L line xs ≤ d_cost L line xs = e_le_d L line xs in
    done_by L W third _ (says idle3 xs) act [] [] room room' s' v' j e2 e3 e4 (record { lower = rw e (omega arith) })
processes L W laws w line b t room v' answer (refuses r) act room' s' e fits j e2 e3 e4 =
    done_by L W third _ (says idle3 (said (replied (refused r)) ∷ [])) act [] [] room room' s' v' j e2 e3 e4 (record { lower = rw e (omega arith) })
processes L W laws w line b t room v' answer (made db shelf) act room' s' e fits j e2 e3 e4 = absurd j
processes L W laws w line b t room v' update (tables ts) act room' s' e fits j e2 e3 e4 = absurd j
processes L W laws w line b t room v' update (refuses r) act room' s' e fits j e2 e3 e4 =
    done_by L W third _ (says idle3 (said (replied (refused r)) ∷ [])) act [] [] room room' s' v' j e2 e3 e4 (record { lower = rw e (omega arith) })
processes {S} L W laws w line b t room v' update (made db shelf) act room' s' e fits (c, lawful, laid, same_shelf, j) e2 e3 e4 =
    let le : count {S = S} L (cargo (change c)) ≤ W.most = laws.change c room.db lawful in
    done_by L W third _ (hands passing3 (cargo (change c))) act [] [] room room' s' v' j e2 e3 e4 (record { lower = rw (e, laid, same_shelf) (omega arith) })
processes {S} L W laws w line b t room v' utility outcome act room' s' e fits j e2 e3 e4 =
    let le : count {S = S} L (cargo (tree t)) ≤ W.most = laws.tree t room.db fits in
    done_by L W third _ (hands passing3 (cargo (tree t))) act [] [] room room' s' v' j e2 e3 e4 (record { lower = omega arith })

-- where a stage takes
pub took : {S : Sorts} (L : Language S) (W : Work L) (k : StageNumber) (v : MessageNetwork S) (known act : Act S) (left right : List (Message S)) (room : Room S) (s' : Beside S) (v' : MessageNetwork S) →
    Some known ≡ Some act → s' ≡ acted (beside v k) act left right room → v' ≡ put v k s' →
    Lowers L W k v (put v k (acted (beside v k) known left right room)) → Lowers L W k v v'
took L W k v known act left right room s' v' e1 e2 e3 h = let e4 : act ≡ known = cc in done_by L W k v known act left right room room s' v' e4 refl e2 e3 h

pub third_lowers : {S : Sorts} (L : Language S) (W : Work L) (laws : WorkLaws L W) (w : Front S) (p : Place S) (room : Room S) (v' : MessageNetwork S) → FitPlace L p room.db →
    MessageStep L third (spread (away w p) room) v' → Lowers L W third (spread (away w p) room) v'
third_lowers L W laws w (at_two b) room v' fits (s', h, e3) = absurd h
third_lowers L W laws w (in_b line b t) room v' fits (s', (act, e1, e2), e3) =
    took L W third _ (turns_to (working3 t)) act [] [] room s' v' e1 e2 e3 (record { lower = omega arith })
third_lowers L W laws w (at_three line b t) room v' fits (s', (act, room', (e1, e2), e3), e4) =
    processes L W laws w line b t room v' (L.kind t) (L.outcome t room.db room.shelf) act room' s' refl fits e1 e2 e3 e4
third_lowers L W laws w (in_c line b x) room v' fits (s', h, e3) = absurd h
third_lowers L W laws w (at_four line b x) room v' fits (s', h, e3) = absurd h
third_lowers L W laws w (in_d line b r) room v' fits (s', (act, e1, e2), e3) =
    took L W third _ (says idle3 (said (replied r) ∷ [])) act [] [] room s' v' e1 e2 e3 (record { lower = omega arith })
third_lowers L W laws w (in_e_tables line b ss) room v' fits (s', h, e3) = absurd h
third_lowers L W laws w (in_e_reply line b r) room v' fits (s', h, e3) = absurd h
third_lowers L W laws w in_f room v' fits (s', h, e3) = absurd h

carries_lower : {S : Sorts} (L : Language S) (W : Work L) (w : Front S) (line : ℕ) (b : S.Batch) (x : Cargo S) (room : Room S) (v' : MessageNetwork S) (outcome : Outcome S) (act : Act S) (room' : Room S) (s' : Beside S) →
    outcome_of L x room.db room.shelf ≡ outcome → CarriesOut room outcome act room' →
    s' ≡ acted (beside (spread (away w (at_four line b x)) room) fourth) act [] [] room' → v' ≡ put (spread (away w (at_four line b x)) room) fourth s' →
    Lowers L W fourth (spread (away w (at_four line b x)) room) v'
carries_lower L W w line b x room v' (tables ts) act room' s' e j e3 e4 = absurd j
carries_lower L W w line b x room v' (made db shelf) act room' s' e (j, e2) e3 e4 =
    done_by L W fourth _ (says idle4 (said (replied done) ∷ [])) act [] [] (record { db = db; shelf = shelf; script = room.script; out = room.out }) room' s' v' j e2 e3 e4 (record { lower = rw e (omega arith) })
carries_lower L W w line b x room v' (refuses r) act room' s' e (j, e2) e3 e4 =
    done_by L W fourth _ (says idle4 (said (replied (refused r)) ∷ [])) act [] [] room room' s' v' j e2 e3 e4 (record { lower = rw e (omega arith) })

pub fourth_lowers : {S : Sorts} (L : Language S) (W : Work L) (w : Front S) (p : Place S) (room : Room S) (v' : MessageNetwork S) →
    MessageStep L fourth (spread (away w p) room) v' → Lowers L W fourth (spread (away w p) room) v'
fourth_lowers L W w (at_two b) room v' (s', h, e3) = absurd h
fourth_lowers L W w (in_b line b t) room v' (s', h, e3) = absurd h
fourth_lowers L W w (at_three line b t) room v' (s', h, e3) = absurd h
fourth_lowers L W w (in_c line b x) room v' (s', (act, e1, e2), e3) =
    took L W fourth _ (turns_to (working4 x)) act [] [] room s' v' (due (goes_to_four L x) (turns_to (working4 x)) act e1) e2 e3 (record { lower = omega arith })
fourth_lowers L W w (at_four line b x) room v' (s', (act, room', e1, e3), e4) =
    carries_lower L W w line b x room v' (outcome_of L x room.db room.shelf) act room' s' refl e1 e3 e4
fourth_lowers L W w (in_d line b r) room v' (s', h, e3) = absurd h
fourth_lowers L W w (in_e_tables line b ss) room v' (s', h, e3) = absurd h
fourth_lowers L W w (in_e_reply line b r) room v' (s', h, e3) = absurd h
fourth_lowers L W w in_f room v' (s', h, e3) = absurd h

checks_lower : {S : Sorts} (L : Language S) (W : Work L) (laws : WorkLaws L W) (w : Front S) (old b : S.Batch) (line : ℕ) (room : Room S) (v' : MessageNetwork S) (meaning : Meaning S) (act : Act S) (room' : Room S) (s' : Beside S) →
    L.batch_runs room.db room.shelf w.ranges old ≡ after_meaning L room.db room.shelf w.ranges line b meaning →
    1 + meaning_work L W room.db room.shelf w.ranges line b meaning ≤ W.batch_work room.db room.shelf w.ranges old →
    Checks L room w.ranges line b meaning act → room' ≡ room →
    s' ≡ acted (beside (spread (away w (at_two old)) room) second) act [] [] room' → v' ≡ put (spread (away w (at_two old)) room) second s' →
    Lowers L W second (spread (away w (at_two old)) room) v'
checks_lower L W laws w old b line room v' (names ranges') act room' s' e le j e2 e3 e4 =
    done_by L W second _ (turns_to (parsing ranges' b)) act [] [] room room' s' v' j e2 e3 e4 (record { lower = simp append-nil (rw e (omega arith)) })
checks_lower L W laws w old b line room v' (objects r) act room' s' e le j e2 e3 e4 =
    done_by L W second _ (says (parsing w.ranges b) (said (replied (refused (L.lined line r))) ∷ [])) act [] [] room room' s' v' j e2 e3 e4
    (record { lower = simp (append-nil, size-append, length-append) (rw e (omega arith)) })
checks_lower {S} L W laws w old b line room v' (runs outcome) act room' s' e le (t, fits, e1, j) e2 e3 e4 =
    let most : count {S = S} L (cargo (tree t)) ≤ W.most = laws.tree t room.db fits in
    done_by L W second _ (hands (passing2 w.ranges line b) (cargo (tree t))) act [] [] room room' s' v' j e2 e3 e4 (record { lower = simp append-nil (rw (e, e1) (omega arith)) })

parses_lower : {S : Sorts} (L : Language S) (W : Work L) (laws : WorkLaws L W) (w : Front S) (old : S.Batch) (room : Room S) (v' : MessageNetwork S) (next : Next S) (act : Act S) (room' : Room S) (s' : Beside S) →
    L.batch_runs room.db room.shelf w.ranges old ≡ after_next L room.db room.shelf w.ranges next →
    1 + next_work L W room.db room.shelf w.ranges next ≤ W.batch_work room.db room.shelf w.ranges old →
    Parses L room w.ranges next act → room' ≡ room →
    s' ≡ acted (beside (spread (away w (at_two old)) room) second) act [] [] room' → v' ≡ put (spread (away w (at_two old)) room) second s' →
    Lowers L W second (spread (away w (at_two old)) room) v'
parses_lower L W laws w old room v' no_more act room' s' e le j e2 e3 e4 =
    done_by L W second _ (says (idle2 w.ranges) (end ∷ [])) act [] [] room room' s' v' j e2 e3 e4 (record { lower = simp (append-nil, size-append, length-append) (rw e (omega arith)) })
parses_lower L W laws w old room v' (bad r) act room' s' e le j e2 e3 e4 =
    done_by L W second _ (says (idle2 w.ranges) (said (replied (refused r)) ∷ end ∷ [])) act [] [] room room' s' v' j e2 e3 e4 (record { lower = simp (append-nil, size-append, length-append) (rw e (omega arith)) })
parses_lower L W laws w old room v' (found s line b) act room' s' e le j e2 e3 e4 =
    checks_lower L W laws w old b line room v' (L.meaning room.db room.shelf w.ranges s) act room' s' e le j e2 e3 e4

passes_lower : {S : Sorts} (L : Language S) (W : Work L) (w : Front S) (line : ℕ) (b : S.Batch) (ss : List (Shown S)) (room : Room S) (v' : MessageNetwork S) →
    MessageStep L second (spread (away w (in_e_tables line b ss)) room) v' → Lowers L W second (spread (away w (in_e_tables line b ss)) room) v'
passes_lower L W w line b [] room v' (s', (act, e1, e2), e3) =
    took L W second _ (turns_to (parsing w.ranges b)) act [] [] room s' v' e1 e2 e3 (record { lower = simp append-nil (omega arith) })
passes_lower {S} L W w line b (s ∷ ss) room v' (s', (act, e1, e2), e3) =
    took L W second _ (says (passing2 w.ranges line b) (said (shown s) ∷ [])) act [] (map (λ (s : Shown S). said (shown s)) ss ++ end ∷ []) room s' v' e1 e2 e3
    (record { lower = simp (append-nil, size-append, length-append) (omega arith) })

pub second_lowers : {S : Sorts} (L : Language S) (laws : Laws L) (W : Work L) (work_laws : WorkLaws L W) (w : Front S) (p : Place S) (room : Room S) (v' : MessageNetwork S) →
    MessageStep L second (spread (away w p) room) v' → Lowers L W second (spread (away w p) room) v'
second_lowers L laws W wl w (at_two b) room v' (s', (act, room', (e1, e2), e3), e4) =
    parses_lower L W wl w b room v' (L.next b) act room' s' (laws.batch room.db room.shelf w.ranges b) (wl.batch room.db room.shelf w.ranges b) e1 e2 e3 e4
second_lowers L laws W wl w (in_b line b t) room v' (s', h, e3) = absurd h
second_lowers L laws W wl w (at_three line b t) room v' (s', h, e3) = absurd h
second_lowers L laws W wl w (in_c line b x) room v' (s', h, e3) = absurd h
second_lowers L laws W wl w (at_four line b x) room v' (s', h, e3) = absurd h
second_lowers L laws W wl w (in_d line b r) room v' (s', h, e3) = absurd h
second_lowers L laws W wl w (in_e_tables line b ss) room v' h = passes_lower L W w line b ss room v' h
second_lowers {S} L laws W wl w (in_e_reply line b r) room v' (s', (act, e1, e2), e3) =
    took L W second _ (says (parsing w.ranges b) (with_line {S = S} L line (said (replied r)) ∷ [])) act [] [] room s' v' e1 e2 e3 (record { lower = simp (append-nil, size-append, length-append) (omega arith) })
second_lowers L laws W wl w in_f room v' (s', h, e3) = absurd h
