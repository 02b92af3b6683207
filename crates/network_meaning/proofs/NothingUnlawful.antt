-- What comes to a stage of an orderly network is lawful for it, and what a stage works on is fit.
use Rattle.std.proofs.Common.{◌≡◌, ◌&&◌, Bool, true, false, List, [], ◌∷◌, ◌++◌, Some, None, refl, ap, subst, ◌∙◌, append_assoc}
use Rattle.std.specs.Prelude.{⊤}
use Rattle.std.specs.List.{list_all}
use Rattle.std.proofs.lemmas.List.Folds.{list_all-append}
use Rattle.std.specs.declared.option.Option.{Option}
use Rattle.frame_codec.specs.declared.frame.Frame.{Frame}
use Rattle.frame_codec.specs.Frames.{is_lawful}
use Rattle.frame_codec.specs.Messages.{is_message_kind}
use Rattle.frame_codec.proofs.Spelled.{cut_lawful}
use Rattle.network_meaning.specs.Sorts.{Sorts, Said, Message, Cargo.tree, Cargo.change, Shown.head, Shown.row, Reply.done, Reply.refused, Said.shown, Said.replied, Message.text, Message.cargo, Message.said, Message.end, Message.quit}
use Rattle.network_meaning.specs.Language.{Language}
use Rattle.network_meaning.specs.Frames.{frames, kind_of, may_be_cut, spell, AllMore, is_more}
use Rattle.network_meaning.specs.Laws.{Laws}
use Rattle.network_meaning.specs.LocalSteps.{Mode, Want, Act, Room, takes, want_of, may_go_on, is_due, if_due, goes_to_four, set_line, turns_to, says, hands}
use Rattle.network_meaning.specs.LocalSteps.{Mode.reading, Mode.waiting, Mode.printing, Mode.idle2, Mode.parsing, Mode.passing2, Mode.idle3, Mode.working3, Mode.passing3, Mode.idle4, Mode.working4, Mode.ended, Want.take_left, Want.take_right, Want.give_left, Want.give_right, Want.work, Want.none}
use Rattle.network_meaning.specs.MessageNetwork.{Beside, beside, MessageNetwork, StageNumber, StageNumber.first, StageNumber.second, StageNumber.third, StageNumber.fourth}
use Rattle.network_meaning.specs.Held.{kept, begun}
use Rattle.network_meaning.specs.Due.{Due, IsDue}
use Rattle.network_meaning.specs.Spelled.{EachSpelled, IsSpelled}
use Rattle.network_meaning.specs.Orderly.{Phase, Place, Front, Phase.reads, Phase.closes, Phase.sends, Phase.away, Phase.quits_a, Phase.quits_b, Phase.quits_c, Phase.over, spread, front_mode, FitPhase, RoutedPlace, RoutedPhase}
use Rattle.network_meaning.specs.Orderly.{Place.at_two, Place.in_b, Place.at_three, Place.in_c, Place.at_four, Place.in_d, Place.in_e_tables, Place.in_e_reply, Place.in_f}
use Rattle.network_meaning.specs.Network.{Network, Between, between, want, want_with, Shows, Orderly}
use Rattle.network_meaning.specs.Lawful.{front_of, in_front, comes, LawfulBehind, LawfulAs, Lawful, FitWork}
use Rattle.network_meaning.proofs.Frames.{First, first_whole, IsCut, is_cut, cut_has_more}

-- the first of these messages, where there is one, is one that this mode takes
abbrev FirstTaken : {S : Sorts} → Language S → Mode S → List (Message S) → Type 0
FirstTaken L mode [] = ⊤
FirstTaken {S} L mode (m ∷ ms) = (act : Act S) × (takes L mode m ≡ Some act)

abbrev FirstAt : {S : Sorts} → Language S → Beside S → Want → Type 0
FirstAt L t take_left = FirstTaken L t.mode t.left_in
FirstAt L t take_right = FirstTaken L t.mode t.right_in
FirstAt L t _ = ⊤

due_taken : {S : Sorts} (test : Bool) (known : Act S) → test ≡ true → (act : Act S) × (if_due test known ≡ Some act)
due_taken true known e = (known, refl)
due_taken false known e = cc

front_takes : {S : Sorts} (L : Language S) (m : S.Monitor) (o : Option S.Head) (prints : Option (Said S)) (coming : List (Said S)) (ranges : S.Ranges) (p : Place S) (room : Room S) →
    IsDue L (spread (away (record { monitor = m; open_head = o; prints = prints; coming = coming; ranges = ranges }) p) room) →
    FirstAt L (beside (spread (away (record { monitor = m; open_head = o; prints = prints; coming = coming; ranges = ranges }) p) room) first) (want_of (front_mode m o prints))
front_takes L m o (Some s) coming ranges p room d = tt
front_takes L m o None (s ∷ ss) ranges p room d = due_taken (is_due L o s) (turns_to (printing m o (said s))) d.0
front_takes L m o None [] ranges in_f room d = (turns_to (printing m o end), refl)
front_takes L m o None [] ranges _ room d = tt

second_takes : {S : Sorts} (L : Language S) (w : Front S) (p : Place S) (room : Room S) → FirstAt L (beside (spread (away w p) room) second) (want_of (spread (away w p) room).two)
second_takes L w (in_e_tables line b []) room = (turns_to (parsing w.ranges b), refl)
second_takes L w (in_e_tables line b (s ∷ ss)) room = (says (passing2 w.ranges line b) (said (shown s) ∷ []), refl)
second_takes L w (in_e_reply line b r) room = (says (parsing w.ranges b) (said (replied (set_line L line r)) ∷ []), refl)
second_takes L w _ room = tt

third_takes : {S : Sorts} (L : Language S) (w : Front S) (p : Place S) (room : Room S) → FirstAt L (beside (spread (away w p) room) third) (want_of (spread (away w p) room).three)
third_takes L w (in_b line b t) room = (turns_to (working3 t), refl)
third_takes L w (in_d line b r) room = (says idle3 (said (replied r) ∷ []), refl)
third_takes L w _ room = tt

fourth_takes : {S : Sorts} (L : Language S) (w : Front S) (p : Place S) (room : Room S) → RoutedPlace L p → FirstAt L (beside (spread (away w p) room) fourth) (want_of (spread (away w p) room).four)
fourth_takes L w (in_c line b x) room routed = due_taken (goes_to_four L x) (turns_to (working4 x)) routed
fourth_takes L w _ room routed = tt

-- the message that comes first is one that the stage takes
first_taken : {S : Sorts} (L : Language S) (p : Phase S) (room : Room S) (k : StageNumber) → RoutedPhase L p → IsDue L (spread p room) → FirstAt L (beside (spread p room) k) (want_of (beside (spread p room) k).mode)
first_taken L (sends m ranges t) room second routed d = (turns_to (parsing ranges (L.start t)), refl)
first_taken L (away w p) room first routed d = front_takes L w.monitor w.open_head w.prints w.coming w.ranges p room d
first_taken L (away w p) room second routed d = second_takes L w p room
first_taken L (away w p) room third routed d = third_takes L w p room
first_taken L (away w p) room fourth routed d = fourth_takes L w p room routed
first_taken L (quits_a ranges) room second routed d = (hands ended quit, refl)
first_taken L quits_b room third routed d = (hands ended quit, refl)
first_taken L quits_c room fourth routed d = (turns_to ended, refl)
first_taken L (reads m ranges) room first routed d = tt
first_taken L (closes m o ranges) room first routed d = tt
first_taken L over room first routed d = tt
first_taken L _ room _ routed d = tt

record Begins {F : Type 0} (frames begin : List F) : Type 0 where
  pub next : F
  pub later : List F
  pub is : frames ≡ begin ++ next ∷ later

-- More frames that come first begin the first message, and it goes on
begins : (got mores : List Frame) (f last : Frame) (behind rest : List Frame) → AllMore got → is_more f ≡ true → is_more last ≡ false →
    got ++ f ∷ behind ≡ mores ++ last ∷ rest → Begins (mores ++ last ∷ []) (got ++ f ∷ [])
begins [] [] f last behind rest h ef el e = let same : f ≡ last = cc in let t : is_more last ≡ true = rw same at ef in cc
begins (x ∷ xs) [] f last behind rest h ef el e = let same : x ≡ last = cc in let t : is_more last ≡ true = rw same at h.0 in cc
begins [] (y ∷ []) f last behind rest h ef el e = record { next = last; later = []; is = (let same : f ≡ y = cc in rw same refl) }
begins [] (y ∷ z ∷ zs) f last behind rest h ef el e = record { next = z; later = zs ++ last ∷ []; is = (let same : f ≡ y = cc in rw same refl) }
begins (x ∷ xs) (y ∷ ys) f last behind rest h ef el e =
    let tails : xs ++ f ∷ behind ≡ ys ++ last ∷ rest = cc in
    let same : x ≡ y = cc in
    let b : Begins (ys ++ last ∷ []) (xs ++ f ∷ []) = begins xs ys f last behind rest h.1 ef el tails in
    record { next = b.next; later = b.later; is = rw (same, b.is) refl }

-- where a message is taken that may have More frames, these may be taken
go_on : {S : Sorts} (L : Language S) (mode : Mode S) (m : Message S) (act : Act S) → may_be_cut m ≡ true → takes L mode m ≡ Some act → may_go_on mode ≡ true
go_on L (waiting x o) m act cut e = refl
go_on L (idle2 ranges) m act cut e = refl
go_on L (passing2 ranges line b) m act cut e = refl
go_on L idle3 m act cut e = refl
go_on L idle4 m act cut e = refl
go_on L passing3 (text t) act cut e = cc
go_on L passing3 (cargo x) act cut e = cc
go_on L passing3 (said (shown s)) act cut e = cc
go_on L passing3 (said (replied r)) act cut e = cc
go_on L passing3 end act cut e = cc
go_on L passing3 quit act cut e = cc
go_on L (reading x) m act cut e = cc
go_on L (printing x o y) m act cut e = cc
go_on L (parsing ranges b) m act cut e = cc
go_on L (working3 t) m act cut e = cc
go_on L (working4 x) m act cut e = cc
go_on L ended m act cut e = cc

lawful_behind : {S : Sorts} (L : Language S) (laws : Laws L) (mode : Mode S) (got : List Frame) (f : Frame) (behind : List Frame) (ms : List (Message S)) (more : Bool) → is_more f ≡ more → AllMore got →
    got ++ f ∷ behind ≡ spell L ms → EachSpelled L ms → FirstTaken L mode ms → LawfulBehind L mode got f more
lawful_behind {S} L laws mode got f behind ms false em h e sp t =
    let w : First L got f behind ms = first_whole L got f behind ms h em sp e in
    rw w.read (rw w.is at t)
lawful_behind L laws mode [] f behind [] true em h e sp t = cc
lawful_behind L laws mode (x ∷ xs) f behind [] true em h e sp t = cc
lawful_behind {S} L laws mode got f behind (m ∷ ms) true em h e sp (act, taken) =
    let c : IsCut L m = is_cut L m in
    let e' : got ++ f ∷ behind ≡ c.mores ++ c.last ∷ spell L ms = e ∙ ap (λ (x : List Frame). x ++ spell L ms) c.cut ∙ append_assoc c.mores (c.last ∷ []) (spell L ms) in
    let b : Begins (c.mores ++ c.last ∷ []) (got ++ f ∷ []) = begins got c.mores f c.last behind (spell L ms) h em c.ends e' in
    let is : frames L m ≡ (got ++ f ∷ []) ++ b.next ∷ b.later = c.cut ∙ b.is in
    (go_on L mode m act (cut_has_more L laws m sp.0 got f b.next b.later is) taken, record { message = m; act = act; taken = taken; next = b.next; later = b.later; is = is })

-- a pipe, between what was taken of it and what is still to be given to it
from_pipe : {S : Sorts} (L : Language S) (laws : Laws L) (mode : Mode S) (got pipe out : List Frame) (ms : List (Message S)) → AllMore got → got ++ (pipe ++ out) ≡ spell L ms → EachSpelled L ms → FirstTaken L mode ms →
    (f : Frame) → front_of pipe ≡ Some f → LawfulBehind L mode got f (is_more f)
from_pipe L laws mode got [] out ms h e sp t f c = cc
from_pipe L laws mode got (g ∷ pipe) out ms h e sp t f c =
    let same : g ≡ f = cc in
    rw (← same) (lawful_behind L laws mode got g (pipe ++ out) ms (is_more g) refl h e sp t)

by_want : {S : Sorts} (L : Language S) (s : Between S) (t : Beside S) (w : Want) → t.mode ≡ s.stage.mode → want_of t.mode ≡ w → FirstAt L t (want_of t.mode) →
    (FirstTaken L t.mode t.left_in → (f : Frame) → front_of s.left_in ≡ Some f → LawfulBehind L t.mode s.stage.got_left f (is_more f)) →
    (FirstTaken L t.mode t.right_in → (f : Frame) → front_of s.right_in ≡ Some f → LawfulBehind L t.mode s.stage.got_right f (is_more f)) →
    (f : Frame) → in_front s w ≡ Some f → LawfulAs L s.stage f w
by_want L s t take_left em ew h left right f c = rw (← em) (left (rw ew at h) f c)
by_want L s t take_right em ew h left right f c = rw (← em) (right (rw ew at h) f c)
by_want L s t give_left em ew h left right f c = cc
by_want L s t give_right em ew h left right f c = cc
by_want L s t work em ew h left right f c = cc
by_want L s t none em ew h left right f c = cc

-- where a stage is to take, it has nothing to give
by_outs : {S : Sorts} (L : Language S) (s : Between S) (t : Beside S) (out_left out_right : List Frame) → t.mode ≡ s.stage.mode → FirstAt L t (want_of t.mode) →
    (FirstTaken L t.mode t.left_in → (f : Frame) → front_of s.left_in ≡ Some f → LawfulBehind L t.mode s.stage.got_left f (is_more f)) →
    (FirstTaken L t.mode t.right_in → (f : Frame) → front_of s.right_in ≡ Some f → LawfulBehind L t.mode s.stage.got_right f (is_more f)) →
    (f : Frame) → in_front s (want_with out_left out_right s.stage.mode) ≡ Some f → LawfulAs L s.stage f (want_with out_left out_right s.stage.mode)
by_outs L s t (g ∷ gs) out_right em h left right f c = cc
by_outs L s t [] (g ∷ gs) em h left right f c = cc
by_outs L s t [] [] em h left right f c = by_want L s t (want_of s.stage.mode) em (ap want_of em) h left right f c

no_pipe : {S : Sorts} (L : Language S) (mode : Mode S) (got : List Frame) (ms : List (Message S)) → FirstTaken L mode ms → (f : Frame) → front_of {F = Frame} [] ≡ Some f → LawfulBehind L mode got f (is_more f)
no_pipe L mode got ms t f c = cc

-- ---- kinds and lengths

and_parts : (a b : Bool) → (a && b) ≡ true → (a ≡ true) × (b ≡ true)
and_parts true b e = (refl, e)
and_parts false b e = cc

message_kind : {S : Sorts} (m : Message S) → is_message_kind (kind_of m) ≡ true
message_kind (text t) = refl
message_kind (cargo (tree t)) = refl
message_kind (cargo (change c)) = refl
message_kind (said (shown (head h))) = refl
message_kind (said (shown (row r))) = refl
message_kind (said (replied done)) = refl
message_kind (said (replied (refused r))) = refl
message_kind end = refl
message_kind quit = refl

-- each frame of messages has a kind and a length that the protocol allows
spelled_lawful : {S : Sorts} (L : Language S) (ms : List (Message S)) → list_all is_lawful (spell L ms) ≡ true
spelled_lawful L [] = refl
spelled_lawful L (m ∷ ms) =
    list_all-append is_lawful (frames L m) (spell L ms) ∙ (rw (cut_lawful (kind_of m) (L.payload m) (message_kind m), spelled_lawful L ms) refl)

lawful_among : (got behind : List Frame) (f : Frame) → list_all is_lawful (got ++ f ∷ behind) ≡ true → is_lawful f ≡ true
lawful_among [] behind f e = (and_parts (is_lawful f) (list_all is_lawful behind) e).0
lawful_among (x ∷ got) behind f e = lawful_among got behind f (and_parts (is_lawful x) (list_all is_lawful (got ++ f ∷ behind)) e).1

formed_pipe : {S : Sorts} (L : Language S) (got pipe out : List Frame) (ms : List (Message S)) → got ++ (pipe ++ out) ≡ spell L ms → (f : Frame) → front_of pipe ≡ Some f → is_lawful f ≡ true
formed_pipe L got [] out ms e f c = cc
formed_pipe L got (g ∷ pipe) out ms e f c =
    let same : g ≡ f = cc in
    rw (← same) (lawful_among got (pipe ++ out) g (ap (list_all is_lawful) e ∙ spelled_lawful L ms))

no_frame : (f : Frame) → front_of {F = Frame} [] ≡ Some f → is_lawful f ≡ true
no_frame f c = cc

formed : {S : Sorts} (s : Between S) (w : Want) → ((f : Frame) → front_of s.left_in ≡ Some f → is_lawful f ≡ true) → ((f : Frame) → front_of s.right_in ≡ Some f → is_lawful f ≡ true) →
    (f : Frame) → in_front s w ≡ Some f → is_lawful f ≡ true
formed s take_left left right f c = left f c
formed s take_right left right f c = right f c
formed s give_left left right f c = cc
formed s give_right left right f c = cc
formed s work left right f c = cc
formed s none left right f c = cc

-- a frame that comes to a stage has a kind and a length that the protocol allows
formed_at : {S : Sorts} (L : Language S) (n : Network S) (v : MessageNetwork S) (k : StageNumber) → Shows L n v → (f : Frame) → comes (between n k) ≡ Some f → is_lawful f ≡ true
formed_at L n v first h f c = formed (between n first) (want n.one) no_frame (formed_pipe L n.one.got_right n.f n.two.out_left v.f h.f) f c
formed_at L n v second h f c = formed (between n second) (want n.two) (formed_pipe L n.two.got_left n.a n.one.out_right v.a h.a) (formed_pipe L n.two.got_right n.e n.three.out_left v.e h.e) f c
formed_at L n v third h f c = formed (between n third) (want n.three) (formed_pipe L n.three.got_left n.b n.two.out_right v.b h.b) (formed_pipe L n.three.got_right n.d n.four.out_left v.d h.d) f c
formed_at L n v fourth h f c = formed (between n fourth) (want n.four) (formed_pipe L n.four.got_left n.c n.three.out_right v.c h.c) no_frame f c

-- ---- what comes

-- the message of a frame that comes to a stage is one that it takes
taken_at : {S : Sorts} (L : Language S) (laws : Laws L) (n : Network S) (p : Phase S) (k : StageNumber) → Shows L n (spread p n.room) → RoutedPhase L p → IsDue L (spread p n.room) → IsSpelled L (spread p n.room) →
    (f : Frame) → comes (between n k) ≡ Some f → LawfulAs L (between n k).stage f (want (between n k).stage)
taken_at L laws n p first h routed d sp =
    by_outs L (between n first) (beside (spread p n.room) first) n.one.out_left n.one.out_right h.one (first_taken L p n.room first routed d)
    (no_pipe L (spread p n.room).one n.one.got_left [])
    (from_pipe L laws (spread p n.room).one n.one.got_right n.f n.two.out_left (spread p n.room).f h.more_one h.f sp.f)
taken_at L laws n p second h routed d sp =
    by_outs L (between n second) (beside (spread p n.room) second) n.two.out_left n.two.out_right h.two (first_taken L p n.room second routed d)
    (from_pipe L laws (spread p n.room).two n.two.got_left n.a n.one.out_right (spread p n.room).a h.more_two_left h.a sp.a)
    (from_pipe L laws (spread p n.room).two n.two.got_right n.e n.three.out_left (spread p n.room).e h.more_two_right h.e sp.e)
taken_at L laws n p third h routed d sp =
    by_outs L (between n third) (beside (spread p n.room) third) n.three.out_left n.three.out_right h.three (first_taken L p n.room third routed d)
    (from_pipe L laws (spread p n.room).three n.three.got_left n.b n.two.out_right (spread p n.room).b h.more_three_left h.b sp.b)
    (from_pipe L laws (spread p n.room).three n.three.got_right n.d n.four.out_left (spread p n.room).d h.more_three_right h.d sp.d)
taken_at L laws n p fourth h routed d sp =
    by_outs L (between n fourth) (beside (spread p n.room) fourth) n.four.out_left n.four.out_right h.four (first_taken L p n.room fourth routed d)
    (from_pipe L laws (spread p n.room).four n.four.got_left n.c n.three.out_right (spread p n.room).c h.more_four h.c sp.c)
    (no_pipe L (spread p n.room).four n.four.got_right [])

-- a frame that comes to a stage is lawful for it, whether or not what travels is fit
pub lawful_at : {S : Sorts} (L : Language S) (laws : Laws L) (n : Network S) (p : Phase S) (k : StageNumber) → Shows L n (spread p n.room) → RoutedPhase L p → IsDue L (spread p n.room) → IsSpelled L (spread p n.room) →
    (f : Frame) → comes (between n k) ≡ Some f → Lawful L (between n k).stage f
lawful_at L laws n p k h routed d sp f c = (formed_at L n (spread p n.room) k h f c, taken_at L laws n p k h routed d sp f c)

-- what travels and is fit goes to stage 4 only where it may
pub routed_of : {S : Sorts} (L : Language S) (p : Phase S) (db : S.Db) → FitPhase L p db → RoutedPhase L p
routed_of L (away w (in_c line b x)) db h = h.1
routed_of L (away w (at_four line b x)) db h = h.1
routed_of L _ db h = tt

-- what comes to a stage is lawful for it
pub lawful : {S : Sorts} (L : Language S) (laws : Laws L) (k : StageNumber) (n : Network S) (f : Frame) → Orderly L n → comes (between n k) ≡ Some f → Lawful L (between n k).stage f
lawful L laws k n f o c = lawful_at L laws n o.phase k o.shows (routed_of L o.phase n.room.db o.fits) o.due o.spelled f c

front_works : {S : Sorts} (L : Language S) (m : S.Monitor) (o : Option S.Head) (prints : Option (Said S)) (xs : List (Message S)) (db : S.Db) → Due L (begun (front_mode m o prints)) (kept (front_mode m o prints) ++ xs) →
    FitWork L (front_mode m o prints) db
front_works L m o None xs db d = tt
front_works L m o (Some s) xs db d = d.0

-- what a stage works on in a phase is fit where what travels is fit, and what comes is due
pub works_at : {S : Sorts} (L : Language S) (p : Phase S) (room : Room S) (k : StageNumber) → FitPhase L p room.db → IsDue L (spread p room) → FitWork L (beside (spread p room) k).mode room.db
works_at L (away w p) room first fits d = front_works L w.monitor w.open_head w.prints _ room.db d
works_at L (away w (at_two b)) room second fits d = tt
works_at L (away w (at_three line b t)) room third fits d = fits
works_at L (away w (at_four line b x)) room fourth fits d = fits
works_at L (reads m ranges) room first fits d = tt
works_at L (closes m o ranges) room first fits d = tt
works_at L (sends m ranges t) room first fits d = tt
works_at L (quits_a ranges) room first fits d = tt
works_at L quits_b room first fits d = tt
works_at L quits_c room first fits d = tt
works_at L over room first fits d = tt
works_at L _ room _ fits d = tt

-- what a stage works on is fit
pub fit_work : {S : Sorts} (L : Language S) (k : StageNumber) (n : Network S) → Orderly L n → FitWork L (between n k).stage.mode n.room.db
fit_work L first n o = subst (λ mode. FitWork L mode n.room.db) o.shows.one (works_at L o.phase n.room first o.fits o.due)
fit_work L second n o = subst (λ mode. FitWork L mode n.room.db) o.shows.two (works_at L o.phase n.room second o.fits o.due)
fit_work L third n o = subst (λ mode. FitWork L mode n.room.db) o.shows.three (works_at L o.phase n.room third o.fits o.due)
fit_work L fourth n o = subst (λ mode. FitWork L mode n.room.db) o.shows.four (works_at L o.phase n.room fourth o.fits o.due)
