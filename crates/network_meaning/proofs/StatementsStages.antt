-- Each step of stages 2 to 4 finishes the first of the statements that are left, or none, and keeps where the session ends.
use Rattle.std.proofs.Common.{◌≡◌, inl, inr, ℕ, List, [], ◌∷◌, ◌++◌, Some, None, map, refl, sym, subst, append_assoc}
use Rattle.std.proofs.lemmas.List.{append-nil}
use Rattle.std.specs.declared.option.Option.{Option}
use Rattle.network_meaning.proofs.Keeps.{due}
use Rattle.network_meaning.specs.Sorts.{After, SessionEnd, Sorts, Cargo, Cargo.tree, Cargo.change, Message, Shown, Reply, Next, Meaning, Outcome, Outcome.tables, Outcome.made, Outcome.refuses, Kind, Kind.answer, Kind.update, Kind.utility}
use Rattle.network_meaning.specs.Sorts.{Reply.done, Reply.refused, Said.shown, Said.replied, Message.cargo, Message.said, Message.end, Next.no_more, Next.bad, Next.found, Meaning.names, Meaning.objects, Meaning.runs}
use Rattle.network_meaning.specs.Ending.{BatchEnds, KeepsEnd, ScriptEnds}
use Rattle.network_meaning.specs.Language.{Language, db_after, shelf_after, after_next, after_meaning, statements_after_next, statements_after_meaning, tables_bytes}
use Rattle.network_meaning.specs.Laws.{Laws}
use Rattle.network_meaning.specs.LocalSteps.{Mode.idle3, Mode.working3, Mode.working4, Mode.passing3, Mode.idle4, Mode.idle2, Mode.parsing, Mode.passing2, Act, Room, Processes, CarriesOut, Checks, Parses, turns_to, says, hands, outcome_of, all_shown, set_line, goes_to_four}
use Rattle.network_meaning.specs.MessageNetwork.{MessageNetwork, Beside, StageNumber, StageNumber.second, StageNumber.third, StageNumber.fourth, beside, put, acted, MessageStep}
use Rattle.network_meaning.specs.Held.{printed, held, kept, begun, rest}
use Rattle.network_meaning.specs.Statements.{statements_left, Finishes}
use Rattle.network_meaning.specs.Orderly.{Place, Front, Phase.away, spread, front_mode}
use Rattle.network_meaning.specs.Orderly.{Place.at_two, Place.in_b, Place.at_three, Place.in_c, Place.at_four, Place.in_d, Place.in_e_tables, Place.in_e_reply, Place.in_f}
use Rattle.network_meaning.proofs.Printing.{Opens, opens_reply, opens_tables, printed_more, tables_printed, lines_kept}

-- a step of messages: it finishes one statement at most, and the session ends as it was to end
pub record OneStep {S : Sorts} (L : Language S) (old new : MessageNetwork S) : Type 0 where
  pub finishes : Finishes L old new
  pub ends : KeepsEnd L old new

-- where a stage works
pub ran_by : {S : Sorts} (L : Language S) (k : StageNumber) (v : MessageNetwork S) (known act : Act S) (left right : List (Message S)) (new room' : Room S) (s' : Beside S) (v' : MessageNetwork S) →
    act ≡ known → room' ≡ new → s' ≡ acted (beside v k) act left right room' → v' ≡ put v k s' →
    OneStep L v (put v k (acted (beside v k) known left right new)) → OneStep L v v'
ran_by L k v known act left right new room' s' v' e1 e2 e3 e4 h = rw e4 (rw e3 (rw (e1, e2) h))

-- where a stage takes
pub took : {S : Sorts} (L : Language S) (k : StageNumber) (v : MessageNetwork S) (known act : Act S) (left right : List (Message S)) (room : Room S) (s' : Beside S) (v' : MessageNetwork S) →
    Some known ≡ Some act → s' ≡ acted (beside v k) act left right room → v' ≡ put v k s' →
    OneStep L v (put v k (acted (beside v k) known left right room)) → OneStep L v v'
took L k v known act left right room s' v' e1 e2 e3 h = let e4 : act ≡ known = cc in ran_by L k v known act left right room room s' v' e4 refl e2 e3 h

-- what is said behind all that was held is held more
held_more : {S : Sorts} (L : Language S) (o : Option S.Head) (ks fs xs : List (Message S)) (bytes : List ℕ) → Opens L xs → printed L None xs ≡ bytes →
    printed L o (ks ++ (fs ++ xs)) ≡ printed L o (ks ++ fs) ++ bytes
held_more L o ks fs xs bytes h e = rw (← append_assoc ks fs xs, printed_more L o (ks ++ fs) xs h, e) refl

-- a reply, with nothing behind it
reply_more : {S : Sorts} (L : Language S) (w : Front S) (r : Reply S) (bytes : List ℕ) → printed L None (said (replied r) ∷ []) ≡ bytes →
    printed L (begun (front_mode w.monitor w.open_head w.prints)) (kept (front_mode w.monitor w.open_head w.prints) ++ (map said w.coming ++ said (replied r) ∷ [])) ≡
    printed L (begun (front_mode w.monitor w.open_head w.prints)) (kept (front_mode w.monitor w.open_head w.prints) ++ map said w.coming) ++ bytes
reply_more L w r bytes e = held_more L (begun (front_mode w.monitor w.open_head w.prints)) (kept (front_mode w.monitor w.open_head w.prints)) (map said w.coming) (said (replied r) ∷ []) bytes (opens_reply L r []) e

-- no statement is finished
pub none : {S : Sorts} (L : Language S) (old new : MessageNetwork S) → statements_left L old ≡ statements_left L new → new.room.db ≡ old.room.db → KeepsEnd L old new → OneStep L old new
none L old new left database ends = record { finishes = inl (record { left = left; database = database }); ends = ends }

-- the statement with this reply is finished
one : {S : Sorts} (L : Language S) (old new : MessageNetwork S) (reply : List ℕ) → statements_left L old ≡ record { reply = reply; db = new.room.db; later = rest L new } ∷ statements_left L new →
    printed L (begun new.one) (held L new) ≡ printed L (begun old.one) (held L old) ++ reply → new.room.out ≡ old.room.out → KeepsEnd L old new → OneStep L old new
one L old new reply left more unwritten ends =
    record { finishes = inr (record { finished = record { reply = reply; db = new.room.db; later = rest L new }; left = left; database = refl; reply = more; unwritten = unwritten; later = refl }); ends = ends }

-- where a batch leaves the session by its next statement
batch_ends : {S : Sorts} (L : Language S) (a b : After S) (m : Option S.Monitor) (script : S.Script) (e : SessionEnd S) → a ≡ b → ScriptEnds L a.db a.shelf a.ranges m script e → ScriptEnds L b.db b.shelf b.ranges m script e
batch_ends {S} L a b m script e = subst (λ (x : After S). ScriptEnds L x.db x.shelf x.ranges m script e)

-- where a tree leaves it by what it comes to
outcome_ends : {S : Sorts} (L : Language S) (db : S.Db) (shelf : S.Shelf) (ranges : S.Ranges) (b : S.Batch) (m : Option S.Monitor) (script : S.Script) (o outcome : Outcome S) (e : SessionEnd S) → o ≡ outcome →
    BatchEnds L (db_after db o) (shelf_after shelf o) ranges (b ∷ []) m script e → BatchEnds L (db_after db outcome) (shelf_after shelf outcome) ranges (b ∷ []) m script e
outcome_ends {S} L db shelf ranges b m script o outcome e = subst (λ (x : Outcome S). BatchEnds L (db_after db x) (shelf_after shelf x) ranges (b ∷ []) m script e)

-- the same where it comes to this database and shelf
made_ends : {S : Sorts} (L : Language S) (db db' : S.Db) (shelf shelf' : S.Shelf) (ranges : S.Ranges) (b : S.Batch) (m : Option S.Monitor) (script : S.Script) (e : SessionEnd S) → db' ≡ db → shelf' ≡ shelf →
    BatchEnds L db shelf ranges (b ∷ []) m script e → BatchEnds L db' shelf' ranges (b ∷ []) m script e
made_ends L db db' shelf shelf' ranges b m script e k l h = rw (k, l) h

checks : {S : Sorts} (L : Language S) (w : Front S) (old b : S.Batch) (line : ℕ) (room : Room S) (v' : MessageNetwork S) (meaning : Meaning S) (act : Act S) (room' : Room S) (s' : Beside S) →
    L.batch_runs room.db room.shelf w.ranges old ≡ after_meaning L room.db room.shelf w.ranges line b meaning →
    L.batch_statements room.db room.shelf w.ranges old ≡ statements_after_meaning L room.db room.shelf w.ranges line b meaning →
    Checks L room w.ranges line b meaning act → room' ≡ room →
    s' ≡ acted (beside (spread (away w (at_two old)) room) second) act [] [] room' → v' ≡ put (spread (away w (at_two old)) room) second s' →
    OneStep L (spread (away w (at_two old)) room) v'
checks L w old b line room v' (names ranges') act room' s' e es j e2 e3 e4 =
    ran_by L second _ (turns_to (parsing ranges' b)) act [] [] room room' s' v' j e2 e3 e4
    (one L _ _ [] (rw (e, es) refl) (simp append-nil) refl (λ x h. batch_ends L _ _ _ room.script x e h))
checks L w old b line room v' (objects r) act room' s' e es j e2 e3 e4 =
    ran_by L second _ (says (parsing w.ranges b) (said (replied (refused (L.lined line r))) ∷ [])) act [] [] room room' s' v' j e2 e3 e4
    (one L _ _ (L.refusal_bytes (L.lined line r)) (rw (e, es) refl) (simp append-nil (reply_more L w (refused (L.lined line r)) _ (append-nil _))) refl (λ x h. batch_ends L _ _ _ room.script x e h))
checks L w old b line room v' (runs outcome) act room' s' e es (t, fits, e1, j) e2 e3 e4 =
    ran_by L second _ (hands (passing2 w.ranges line b) (cargo (tree t))) act [] [] room room' s' v' j e2 e3 e4 (none L _ _ (rw (e, es, e1) refl) refl (λ x h. outcome_ends L room.db room.shelf w.ranges b _ room.script _ _ x (sym e1) (batch_ends L _ _ _ room.script x e h)))

parses : {S : Sorts} (L : Language S) (w : Front S) (old : S.Batch) (room : Room S) (v' : MessageNetwork S) (next : Next S) (act : Act S) (room' : Room S) (s' : Beside S) →
    L.batch_runs room.db room.shelf w.ranges old ≡ after_next L room.db room.shelf w.ranges next →
    L.batch_statements room.db room.shelf w.ranges old ≡ statements_after_next L room.db room.shelf w.ranges next →
    Parses L room w.ranges next act → room' ≡ room →
    s' ≡ acted (beside (spread (away w (at_two old)) room) second) act [] [] room' → v' ≡ put (spread (away w (at_two old)) room) second s' →
    OneStep L (spread (away w (at_two old)) room) v'
parses L w old room v' no_more act room' s' e es j e2 e3 e4 =
    ran_by L second _ (says (idle2 w.ranges) (end ∷ [])) act [] [] room room' s' v' j e2 e3 e4 (none L _ _ (rw (e, es) refl) refl (λ x h. batch_ends L _ _ _ room.script x e h))
parses L w old room v' (bad r) act room' s' e es j e2 e3 e4 =
    ran_by L second _ (says (idle2 w.ranges) (said (replied (refused r)) ∷ end ∷ [])) act [] [] room room' s' v' j e2 e3 e4 (none L _ _ (rw (e, es) refl) refl (λ x h. batch_ends L _ _ _ room.script x e h))
parses L w old room v' (found s line b) act room' s' e es j e2 e3 e4 =
    checks L w old b line room v' (L.meaning room.db room.shelf w.ranges s) act room' s' e es j e2 e3 e4

passes : {S : Sorts} (L : Language S) (w : Front S) (line : ℕ) (b : S.Batch) (ss : List (Shown S)) (room : Room S) (v' : MessageNetwork S) →
    MessageStep L second (spread (away w (in_e_tables line b ss)) room) v' → OneStep L (spread (away w (in_e_tables line b ss)) room) v'
passes L w line b [] room v' (s', (act, e1, e2), e3) =
    took L second _ (turns_to (parsing w.ranges b)) act [] [] room s' v' e1 e2 e3 (none L _ _ refl refl (λ x h. h))
passes {S} L w line b (s ∷ ss) room v' (s', (act, e1, e2), e3) =
    took L second _ (says (passing2 w.ranges line b) (said (shown s) ∷ [])) act [] (map (λ (s : Shown S). said (shown s)) ss ++ end ∷ []) room s' v' e1 e2 e3
    (none L _ _ refl refl (λ x h. h))

pub second_finishes : {S : Sorts} (L : Language S) (laws : Laws L) (w : Front S) (p : Place S) (room : Room S) (v' : MessageNetwork S) →
    MessageStep L second (spread (away w p) room) v' → OneStep L (spread (away w p) room) v'
second_finishes L laws w (at_two b) room v' (s', (act, room', (e1, e2), e3), e4) =
    parses L w b room v' (L.next b) act room' s' (laws.batch room.db room.shelf w.ranges b) (laws.batch_list room.db room.shelf w.ranges b) e1 e2 e3 e4
second_finishes L laws w (in_b line b t) room v' (s', h, e3) = absurd h
second_finishes L laws w (at_three line b t) room v' (s', h, e3) = absurd h
second_finishes L laws w (in_c line b x) room v' (s', h, e3) = absurd h
second_finishes L laws w (at_four line b x) room v' (s', h, e3) = absurd h
second_finishes L laws w (in_d line b r) room v' (s', h, e3) = absurd h
second_finishes L laws w (in_e_tables line b ss) room v' h = passes L w line b ss room v' h
second_finishes L laws w (in_e_reply line b r) room v' (s', (act, e1, e2), e3) =
    took L second _ (says (parsing w.ranges b) (said (replied (set_line L line r)) ∷ [])) act [] [] room s' v' e1 e2 e3 (none L _ _ refl refl (λ x h. h))
second_finishes L laws w in_f room v' (s', h, e3) = absurd h

processes : {S : Sorts} (L : Language S) (w : Front S) (line : ℕ) (b : S.Batch) (t : S.Tree) (room : Room S) (v' : MessageNetwork S) (kind : Kind) (outcome : Outcome S) (act : Act S) (room' : Room S) (s' : Beside S) →
    L.outcome t room.db room.shelf ≡ outcome → Processes L room t kind outcome act → room' ≡ room →
    s' ≡ acted (beside (spread (away w (at_three line b t)) room) third) act [] [] room' → v' ≡ put (spread (away w (at_three line b t)) room) third s' →
    OneStep L (spread (away w (at_three line b t)) room) v'
processes {S} L w line b t room v' answer (tables ts) act room' s' e j e2 e3 e4 =
    let xs : List (Message S) = map (λ (s : Shown S). said (shown s)) (all_shown ts) ++ end ∷ [] in
    ran_by L third _ (says idle3 xs) act [] [] room room' s' v' j e2 e3 e4
    (one L _ _ (tables_bytes L ts) (rw e refl)
    (simp append-nil (rw (lines_kept L line (all_shown ts) (end ∷ []))
    (held_more L (begun (front_mode w.monitor w.open_head w.prints)) (kept (front_mode w.monitor w.open_head w.prints)) (map said w.coming) xs _ (opens_tables L ts) (tables_printed L ts))))
    refl (λ x h. outcome_ends L room.db room.shelf w.ranges b _ room.script _ _ x e h))
processes L w line b t room v' answer (refuses r) act room' s' e j e2 e3 e4 =
    ran_by L third _ (says idle3 (said (replied (refused r)) ∷ [])) act [] [] room room' s' v' j e2 e3 e4
    (one L _ _ (L.refusal_bytes (L.lined line r)) (rw e refl) (simp append-nil (reply_more L w (refused (L.lined line r)) _ (append-nil _))) refl (λ x h. outcome_ends L room.db room.shelf w.ranges b _ room.script _ _ x e h))
processes L w line b t room v' answer (made db shelf) act room' s' e j e2 e3 e4 = absurd j
processes L w line b t room v' update (tables ts) act room' s' e j e2 e3 e4 = absurd j
processes L w line b t room v' update (refuses r) act room' s' e j e2 e3 e4 =
    ran_by L third _ (says idle3 (said (replied (refused r)) ∷ [])) act [] [] room room' s' v' j e2 e3 e4
    (one L _ _ (L.refusal_bytes (L.lined line r)) (rw e refl) (simp append-nil (reply_more L w (refused (L.lined line r)) _ (append-nil _))) refl (λ x h. outcome_ends L room.db room.shelf w.ranges b _ room.script _ _ x e h))
processes L w line b t room v' update (made db shelf) act room' s' e (c, lawful, laid, same_shelf, j) e2 e3 e4 =
    ran_by L third _ (hands passing3 (cargo (change c))) act [] [] room room' s' v' j e2 e3 e4 (none L _ _ (rw (e, laid, same_shelf) refl) refl (λ x h. made_ends L db (L.laid c room.db) shelf room.shelf w.ranges b _ room.script x laid same_shelf (outcome_ends L room.db room.shelf w.ranges b _ room.script _ _ x e h)))
processes L w line b t room v' utility outcome act room' s' e j e2 e3 e4 =
    ran_by L third _ (hands passing3 (cargo (tree t))) act [] [] room room' s' v' j e2 e3 e4 (none L _ _ refl refl (λ x h. h))

pub third_finishes : {S : Sorts} (L : Language S) (w : Front S) (p : Place S) (room : Room S) (v' : MessageNetwork S) →
    MessageStep L third (spread (away w p) room) v' → OneStep L (spread (away w p) room) v'
third_finishes L w (at_two b) room v' (s', h, e3) = absurd h
third_finishes L w (in_b line b t) room v' (s', (act, e1, e2), e3) =
    took L third _ (turns_to (working3 t)) act [] [] room s' v' e1 e2 e3 (none L _ _ refl refl (λ x h. h))
third_finishes L w (at_three line b t) room v' (s', (act, room', (e1, e2), e3), e4) =
    processes L w line b t room v' (L.kind t) (L.outcome t room.db room.shelf) act room' s' refl e1 e2 e3 e4
third_finishes L w (in_c line b x) room v' (s', h, e3) = absurd h
third_finishes L w (at_four line b x) room v' (s', h, e3) = absurd h
third_finishes L w (in_d line b r) room v' (s', (act, e1, e2), e3) =
    took L third _ (says idle3 (said (replied r) ∷ [])) act [] [] room s' v' e1 e2 e3 (none L _ _ refl refl (λ x h. h))
third_finishes L w (in_e_tables line b ss) room v' (s', h, e3) = absurd h
third_finishes L w (in_e_reply line b r) room v' (s', h, e3) = absurd h
third_finishes L w in_f room v' (s', h, e3) = absurd h

carries_out : {S : Sorts} (L : Language S) (w : Front S) (line : ℕ) (b : S.Batch) (x : Cargo S) (room : Room S) (v' : MessageNetwork S) (outcome : Outcome S) (act : Act S) (room' : Room S) (s' : Beside S) →
    outcome_of L x room.db room.shelf ≡ outcome → CarriesOut room outcome act room' →
    s' ≡ acted (beside (spread (away w (at_four line b x)) room) fourth) act [] [] room' → v' ≡ put (spread (away w (at_four line b x)) room) fourth s' →
    OneStep L (spread (away w (at_four line b x)) room) v'
carries_out L w line b x room v' (tables ts) act room' s' e j e3 e4 = absurd j
carries_out L w line b x room v' (made db shelf) act room' s' e (j, e2) e3 e4 =
    ran_by L fourth _ (says idle4 (said (replied done) ∷ [])) act [] [] (record { db = db; shelf = shelf; script = room.script; out = room.out }) room' s' v' j e2 e3 e4
    (one L _ _ L.done_bytes (rw e refl) (simp append-nil (reply_more L w done _ (append-nil _))) refl (λ x h. outcome_ends L room.db room.shelf w.ranges b _ room.script _ _ x e h))
carries_out L w line b x room v' (refuses r) act room' s' e (j, e2) e3 e4 =
    ran_by L fourth _ (says idle4 (said (replied (refused r)) ∷ [])) act [] [] room room' s' v' j e2 e3 e4
    (one L _ _ (L.refusal_bytes (L.lined line r)) (rw e refl) (simp append-nil (reply_more L w (refused (L.lined line r)) _ (append-nil _))) refl (λ x h. outcome_ends L room.db room.shelf w.ranges b _ room.script _ _ x e h))

pub fourth_finishes : {S : Sorts} (L : Language S) (w : Front S) (p : Place S) (room : Room S) (v' : MessageNetwork S) →
    MessageStep L fourth (spread (away w p) room) v' → OneStep L (spread (away w p) room) v'
fourth_finishes L w (at_two b) room v' (s', h, e3) = absurd h
fourth_finishes L w (in_b line b t) room v' (s', h, e3) = absurd h
fourth_finishes L w (at_three line b t) room v' (s', h, e3) = absurd h
fourth_finishes L w (in_c line b x) room v' (s', (act, e1, e2), e3) =
    took L fourth _ (turns_to (working4 x)) act [] [] room s' v' (due (goes_to_four L x) (turns_to (working4 x)) act e1) e2 e3 (none L _ _ refl refl (λ x h. h))
fourth_finishes L w (at_four line b x) room v' (s', (act, room', e1, e3), e4) =
    carries_out L w line b x room v' (outcome_of L x room.db room.shelf) act room' s' refl e1 e3 e4
fourth_finishes L w (in_d line b r) room v' (s', h, e3) = absurd h
fourth_finishes L w (in_e_tables line b ss) room v' (s', h, e3) = absurd h
fourth_finishes L w (in_e_reply line b r) room v' (s', h, e3) = absurd h
fourth_finishes L w in_f room v' (s', h, e3) = absurd h
