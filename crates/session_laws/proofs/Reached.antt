-- What holds wherever a run from the start on stands.
use Rattle.std.proofs.Common.{◌≡◌, ◌⊎◌, inl, inr, refl, sym, ap, subst, ◌∙◌, ℕ, ◌+◌, ◌≤◌, Bool, true, false, List, [], ◌∷◌, ◌++◌, Some, None, append_assoc, append-nil, arith, length, drop}
use Rattle.std.proofs.Math.Seq.{drop-append-add, drop-append_seam}
use Rattle.std.specs.List.{list_all}
use Rattle.std.specs.declared.option.Option.{Option}
use Rattle.fault_io.specs.Known.{IsFront}
use Rattle.network_meaning.proofs.Runs.{wrote_more, wrote_nothing}
use Rattle.network_meaning.proofs.StatementsWhole.{keeps_end}
use Rattle.network_meaning.proofs.Ends.{start_orderly}
use Rattle.network_meaning.proofs.Whole.{Kept, equation, shown_view}
use Rattle.network_meaning.specs.Calls.{Knows, Moves, MovesIn, RunsTurns, Seen, Shape, Wrote, join, stage_number}
use Rattle.network_meaning.specs.Ending.{Ends, KeepsEnd}
use Rattle.network_meaning.specs.LocalSteps.{Mode.reading, Room}
use Rattle.network_meaning.specs.Held.{total}
use Rattle.network_meaning.specs.MessageNetwork.{MessageNetwork, StageNumber, StageNumber.first, StageNumber.second, StageNumber.third, StageNumber.fourth}
use Rattle.network_meaning.specs.Network.{NetworkStep, Orderly, StepsUnlessBlocked, as_messages, between, bytes_in_all, start}
use Rattle.network_meaning.specs.Orderly.{Phase, Phase.reads, Phase.closes, Phase.sends, Phase.away, Phase.quits_a, Phase.quits_b, Phase.quits_c, Phase.over, Place, Place.at_two, Place.in_b, Place.at_three, Place.in_c, Place.at_four, Place.in_d, Place.in_e_tables, Place.in_e_reply, Place.in_f, front_mode, mode_four, mode_three, mode_two, spread}
use Rattle.network_meaning.specs.Sorts.{Said, SessionEnd}
use Rattle.quel_meaning.specs.Lines.{is_no_newline}
use Rattle.quel_meaning.specs.Ranges.{Ranges}
use Rattle.quel_meaning.specs.Session.{output}
use Rattle.calculus.specs.declared.reply.Column.{Column}
use Rattle.session_laws.proofs.AtTheStart.{bytes_at_start, end_at_start}
use Rattle.quel_network.specs.Laws.{quel_laws}
use Rattle.quel_network.specs.Quel.{quel}
use Rattle.quel_network.specs.Sorts.{Monitor, User, first_monitor, quel_sorts}
use Rattle.session_laws.proofs.Cutting.{recut, step_cut, step_kind}
use Rattle.session_laws.proofs.Fronts.{heard_exactly, heard_of, heard_within, nothing_prints}
use Rattle.session_laws.proofs.Heard.{ReadsLine, ends_here, prints_nothing}
use Rattle.net_core.specs.Reads.{IsWhole, NoLineOpen}
use Rattle.net_core.specs.Whole.{start_shape}
use Rattle.session_laws.proofs.Texts.{FirstLine}
use Rattle.session_laws.specs.Heard.{before_all, within}

-- ---- where the monitor reads

not_front : (m monitor : Monitor) (o : Option (List Column)) (prints : Option (Said quel_sorts)) → front_mode {S = quel_sorts} monitor o prints ≡ reading m → ⊥
not_front m monitor o None e = cc
not_front m monitor o (Some s) e = cc

not_two : (m : Monitor) (ranges : Ranges) (p : Place quel_sorts) → mode_two ranges p ≡ reading m → ⊥
not_two m ranges (at_two b) e = cc
not_two m ranges (in_b line b t) e = cc
not_two m ranges (at_three line b t) e = cc
not_two m ranges (in_c line b x) e = cc
not_two m ranges (at_four line b x) e = cc
not_two m ranges (in_d line b r) e = cc
not_two m ranges (in_e_tables line b ss) e = cc
not_two m ranges (in_e_reply line b r) e = cc
not_two m ranges in_f e = cc

not_three : (m : Monitor) (p : Place quel_sorts) → mode_three p ≡ reading m → ⊥
not_three m (at_two b) e = cc
not_three m (in_b line b t) e = cc
not_three m (at_three line b t) e = cc
not_three m (in_c line b x) e = cc
not_three m (at_four line b x) e = cc
not_three m (in_d line b r) e = cc
not_three m (in_e_tables line b ss) e = cc
not_three m (in_e_reply line b r) e = cc
not_three m in_f e = cc

not_four : (m : Monitor) (p : Place quel_sorts) → mode_four p ≡ reading m → ⊥
not_four m (at_two b) e = cc
not_four m (in_b line b t) e = cc
not_four m (at_three line b t) e = cc
not_four m (in_c line b x) e = cc
not_four m (at_four line b x) e = cc
not_four m (in_d line b r) e = cc
not_four m (in_e_tables line b ss) e = cc
not_four m (in_e_reply line b r) e = cc
not_four m in_f e = cc

second_never : (m : Monitor) (p : Phase quel_sorts) (room : Room quel_sorts) → (spread p room).two ≡ reading m → ⊥
second_never m (reads monitor ranges) room e = cc
second_never m (closes monitor o ranges) room e = cc
second_never m (sends monitor ranges t) room e = cc
second_never m (away w p) room e = not_two m w.ranges p e
second_never m (quits_a ranges) room e = cc
second_never m quits_b room e = cc
second_never m quits_c room e = cc
second_never m over room e = cc

third_never : (m : Monitor) (p : Phase quel_sorts) (room : Room quel_sorts) → (spread p room).three ≡ reading m → ⊥
third_never m (reads monitor ranges) room e = cc
third_never m (closes monitor o ranges) room e = cc
third_never m (sends monitor ranges t) room e = cc
third_never m (away w p) room e = not_three m p e
third_never m (quits_a ranges) room e = cc
third_never m quits_b room e = cc
third_never m quits_c room e = cc
third_never m over room e = cc

fourth_never : (m : Monitor) (p : Phase quel_sorts) (room : Room quel_sorts) → (spread p room).four ≡ reading m → ⊥
fourth_never m (reads monitor ranges) room e = cc
fourth_never m (closes monitor o ranges) room e = cc
fourth_never m (sends monitor ranges t) room e = cc
fourth_never m (away w p) room e = not_four m p e
fourth_never m (quits_a ranges) room e = cc
fourth_never m quits_b room e = cc
fourth_never m quits_c room e = cc
fourth_never m over room e = cc

-- only the first stage reads
pub first_reads : (user : User) (n : Shape quel_sorts) (room : Room quel_sorts) (k : StageNumber) (m : Monitor) → Orderly (quel user) (join n room) → (between (join n room) k).stage.mode ≡ reading m → n.one.mode ≡ reading m
first_reads user n room first m o e = e
first_reads user n room second m o e = absurd (second_never m o.phase room (o.shows.two ∙ e))
first_reads user n room third m o e = absurd (third_never m o.phase room (o.shows.three ∙ e))
first_reads user n room fourth m o e = absurd (fourth_never m o.phase room (o.shows.four ∙ e))

phase_reads : (m : Monitor) (p : Phase quel_sorts) (room : Room quel_sorts) → (spread p room).one ≡ reading m → (ranges : Ranges) × (spread p room ≡ spread (reads m ranges) room)
phase_reads m (reads monitor ranges) room e = let same : ◌≡◌ {A = Monitor} monitor m = cc e in (ranges, ap (λ (x : Monitor). spread {S = quel_sorts} (reads x ranges) room) same)
phase_reads m (closes monitor o ranges) room e = absurd (cc e)
phase_reads m (sends monitor ranges t) room e = absurd (cc e)
phase_reads m (away w p) room e = absurd (not_front m w.monitor w.open_head w.prints e)
phase_reads m (quits_a ranges) room e = absurd (cc e)
phase_reads m quits_b room e = absurd (cc e)
phase_reads m quits_c room e = absurd (cc e)
phase_reads m over room e = absurd (cc e)

reading_view : (user : User) (n : Shape quel_sorts) (room : Room quel_sorts) (m : Monitor) → Orderly (quel user) (join n room) → n.one.mode ≡ reading m → (ranges : Ranges) × (as_messages (quel user) (join n room) ≡ spread (reads m ranges) room)
reading_view user n room m o e =
    let (ranges, same) = phase_reads m o.phase room (o.shows.one ∙ e) in
    (ranges, shown_view (quel user) (join n room) (spread o.phase room) o.shows o.spelled ∙ same)

-- ---- what holds

-- the script behind what was read ends so: the network with the script that is cut before this end is one that the start leads to, in the room with the script that is cut so
pub record CutThere (user : User) (r : Room quel_sorts) (n : Shape quel_sorts) (room : Room quel_sorts) (b u : List ℕ) : Type 0 where
  pub before : List ℕ
  pub is : r.script ≡ before ++ u
  pub orderly : Orderly (quel user) (join n (recut b room))
  pub same : bytes_in_all (quel user) (join n (recut b room)) ≡ bytes_in_all (quel user) (start first_monitor [] (recut before r))
  pub ends : KeepsEnd (quel user) (as_messages (quel user) (start first_monitor [] (recut before r))) (as_messages (quel user) (join n (recut b room)))

-- what was read is so many bytes and at most one more; no line that lies wholly in the first ended the session, and at least what these lines print was written
pub record Up (user : User) (r : Room quel_sorts) (script out : List ℕ) : Type 0 where
  pub heard : ℕ
  pub more : ℕ
  pub small : more ≤ 1
  pub read : script ≡ drop (heard + more) r.script
  pub goes_on : (within heard user r).quit ≡ false
  pub bytes : List ℕ
  pub wrote : out ≡ r.out ++ bytes
  pub front : IsFront (output (within heard user r)) bytes

-- what was read is whole lines, or nothing is left
pub record ReadSo (r room : Room quel_sorts) : Type 0 where
  pub heard : List ℕ
  pub is : r.script ≡ heard ++ room.script
  pub whole : IsWhole heard ⊎ (room.script ≡ [])

-- a run from the start in the first room on stands at this network
pub record Reached (user : User) (r : Room quel_sorts) (n : Shape quel_sorts) (room : Room quel_sorts) : Type 0 where
  pub cut : (b u : List ℕ) → room.script ≡ b ++ u → CutThere user r n room b u
  pub up : Up user r room.script room.out
  pub read : ReadSo r room

pub is_orderly : (user : User) (r room : Room quel_sorts) (n : Shape quel_sorts) → Reached user r n room → Orderly (quel user) (join n room)
is_orderly user r room n reached = (reached.cut room.script [] (sym (append-nil room.script))).orderly

-- ---- where the next line is the script's

-- what was heard has done all that it does
pub record AtScript (user : User) (r room : Room quel_sorts) : Type 0 where
  pub heard : List ℕ
  pub is : r.script ≡ heard ++ room.script
  pub wrote : room.out ≡ r.out ++ output (heard_of user r heard)
  pub goes_on : (heard_of user r heard).quit ≡ false
  pub files : room.shelf ≡ (heard_of user r heard).state.shelf

pub at_script : (user : User) (r room : Room quel_sorts) (n : Shape quel_sorts) (m : Monitor) → Reached user r n room → n.one.mode ≡ reading m → m.parts ≡ [] → NoLineOpen m.files → AtScript user r room
at_script user r room n m reached mode parts unopened =
    let L = quel user in
    let c = reached.cut [] room.script refl in
    let (ranges, view) = reading_view user n (recut [] room) m c.orderly mode in
    let bytes : bytes_in_all L (join n (recut [] room)) ≡ room.out ++ L.script_bytes room.db room.shelf ranges m [] = ap (total L) view in
    let ended : SessionEnd quel_sorts = L.script_end r.db r.shelf [] first_monitor c.before in
    let there : Ends L (as_messages L (join n (recut [] room))) ended = c.ends ended refl in
    let here : L.script_end room.db room.shelf ranges m [] ≡ ended = subst (λ (v : MessageNetwork quel_sorts). Ends L v ended) view there in
    let same = sym (ends_here user room.db room.shelf ranges m parts unopened) ∙ here ∙ end_at_start user (before_all r) c.before in
    record {
      heard = c.before;
      is = c.is;
      wrote = sym (append-nil room.out) ∙ ap (λ (x : List ℕ). room.out ++ x) (sym (prints_nothing user room.db room.shelf ranges m parts unopened)) ∙ sym bytes ∙ c.same
          ∙ ap (λ (x : List ℕ). r.out ++ x) (bytes_at_start user (before_all r) c.before);
      goes_on = sym (ap (λ (e : SessionEnd quel_sorts). e.quit) same);
      files = ap (λ (e : SessionEnd quel_sorts). e.shelf) same;
    }

-- bytes of the next line were read, of which none is a newline, and then at most one more; and more may have been written
pub up_from : (user : User) (r room : Room quel_sorts) (front last rest out more : List ℕ) → AtScript user r room → room.script ≡ front ++ (last ++ rest) → list_all is_no_newline front ≡ true → length last ≤ 1 → out ≡ room.out ++ more → Up user r rest out
up_from user r room front last rest out more at e free small grew =
    let s = heard_of user r at.heard in
    let script : r.script ≡ (at.heard ++ front) ++ (last ++ rest) = at.is ∙ ap (λ (x : List ℕ). at.heard ++ x) e ∙ sym (append_assoc at.heard front (last ++ rest)) in
    let w = heard_within user r at.heard front (last ++ rest) script free in
    record {
      heard = length (at.heard ++ front);
      more = length last;
      small = small;
      read = sym (ap (λ (x : List ℕ). drop (length (at.heard ++ front) + length last) x) script ∙ drop-append-add (at.heard ++ front) (last ++ rest) (length last) ∙ drop-append_seam last rest);
      goes_on = w.goes_on at.goes_on;
      bytes = output s ++ more;
      wrote = grew ∙ ap (λ (x : List ℕ). x ++ more) at.wrote ∙ append_assoc r.out (output s) more;
      front = (w.front.0 ++ more, ap (λ (x : List ℕ). x ++ more) w.front.1 ∙ append_assoc _ w.front.0 more);
    }

-- nothing was read, and more may have been written
pub up_still : (user : User) (r : Room quel_sorts) (script script' out out' more : List ℕ) → Up user r script out → script' ≡ script → out' ≡ out ++ more → Up user r script' out'
up_still user r script script' out out' more up e grew = record {
  heard = up.heard;
  more = up.more;
  small = up.small;
  read = e ∙ up.read;
  goes_on = up.goes_on;
  bytes = up.bytes ++ more;
  wrote = grew ∙ ap (λ (x : List ℕ). x ++ more) up.wrote ∙ append_assoc r.out up.bytes more;
  front = (up.front.0 ++ more, ap (λ (x : List ℕ). x ++ more) up.front.1 ∙ append_assoc _ up.front.0 more);
}

-- ---- the start

up_at_start : (user : User) (r : Room quel_sorts) → Up user r r.script r.out
up_at_start user r =
    let same : within 0 user r ≡ heard_of user r [] = heard_exactly user r [] [] r.script refl (inl refl) refl in
    let (none, goes) = nothing_prints user r in
    record {
      heard = 0;
      more = 0;
      small = omega arith;
      read = refl;
      goes_on = rw same goes;
      bytes = [];
      wrote = sym (append-nil r.out);
      front = rw same ([], sym (append-nil _ ∙ none));
    }

pub reached_start : (user : User) (r : Room quel_sorts) → Reached user r start_shape r
reached_start user r = record {
  cut = λ b u e. record { before = b; is = e; orderly = start_orderly (quel user) first_monitor [] (recut b r); same = refl; ends = λ x h. h };
  up = up_at_start user r;
  read = record { heard = []; is = refl; whole = inl (inl refl) };
}

-- ---- a step

cut_on : (user : User) (capacity : ℕ) (k : StageNumber) (blocked : Bool) (old new : Seen quel_sorts) (m : Moves (quel user) capacity k blocked old new) (r room : Room quel_sorts) (t : Knows old.known room)
    → Reached user r old.shape room → (b u : List ℕ) → (m.exact room t).room'.script ≡ b ++ u → CutThere user r new.shape (m.exact room t).room' b u
cut_on user capacity k blocked old new m r room t reached b u e =
    let L = quel user in
    let x : MovesIn L k blocked old new room = m.exact room t in
    let (a, script, step) = step_cut user k blocked old.shape new.shape room x.room' b u x.step e in
    let c = reached.cut a u script in
    let there : NetworkStep L capacity k (join old.shape (recut a room)) (join new.shape (recut b x.room')) =
    subst (λ (bl : Bool). StepsUnlessBlocked L k (join old.shape (recut a room)) (join new.shape (recut b x.room')) bl) (sym (m.is (recut a room))) step in
    let kept : Kept L (join old.shape (recut a room)) (join new.shape (recut b x.room')) = equation L (quel_laws user) capacity k (join old.shape (recut a room)) (join new.shape (recut b x.room')) c.orderly there in
    let later = keeps_end L (quel_laws user) capacity k (join old.shape (recut a room)) (join new.shape (recut b x.room')) c.orderly there in
    record { before = c.before; is = c.is; orderly = kept.orderly; same = kept.same ∙ c.same; ends = λ y h. later y (c.ends y h) }

read_more : (r room room' : Room quel_sorts) (f : FirstLine room.script) → room'.script ≡ f.rest → ReadSo r room → ReadSo r room'
read_more r room room' f e read = record {
  heard = read.heard ++ (f.front ++ f.last ∷ []);
  is = read.is ∙ ap (λ (x : List ℕ). read.heard ++ x) f.is ∙ sym (append_assoc read.heard (f.front ++ f.last ∷ []) f.rest) ∙ ap (λ (x : List ℕ). (read.heard ++ (f.front ++ f.last ∷ [])) ++ x) (sym e);
  whole = elim f.ends [
    | inl ten ↦ inl (inr (read.heard ++ f.front, ap (λ (x : ℕ). read.heard ++ (f.front ++ x ∷ [])) ten ∙ sym (append_assoc read.heard f.front (10 ∷ []))))
    | inr none ↦ inr (e ∙ none)
  ];
}

pub moves_on : (user : User) (capacity : ℕ) (k : StageNumber) (blocked : Bool) (old new : Seen quel_sorts) (m : Moves (quel user) capacity k blocked old new) (r room : Room quel_sorts) (t : Knows old.known room)
    → Reached user r old.shape room → Reached user r new.shape (m.exact room t).room'
moves_on user capacity k blocked old new m r room t reached =
    let x : MovesIn (quel user) k blocked old new room = m.exact room t in
    let later = moved (step_kind user k blocked old.shape new.shape room x.room' x.step) in
    record { cut = cut_on user capacity k blocked old new m r room t reached; up = later.0; read = later.1 }
  where
    moved : (((m.exact room t).room'.script ≡ room.script) ⊎ ((monitor : Monitor) × ((between (join old.shape room) k).stage.mode ≡ reading monitor) × ReadsLine monitor room.script (m.exact room t).room'.script))
        → Up user r (m.exact room t).room'.script (m.exact room t).room'.out × ReadSo r (m.exact room t).room'
    moved (inl e) =
        let (more, grew, known) = (m.exact room t).wrote in
        (up_still user r room.script _ room.out _ more reached.up e grew, record { heard = reached.read.heard; is = reached.read.is ∙ ap (λ (y : List ℕ). reached.read.heard ++ y) (sym e); whole = elim reached.read.whole [ inl w ↦ inl w | inr none ↦ inr (e ∙ none) ] })
    moved (inr (monitor, mode, (parts, unopened, f, e))) =
        let (more, grew, known) = (m.exact room t).wrote in
        let at = at_script user r room old.shape monitor reached (first_reads user old.shape room k monitor (is_orderly user r room old.shape reached) mode) parts unopened in
        let cut : room.script ≡ f.front ++ ((f.last ∷ []) ++ (m.exact room t).room'.script) = f.is ∙ append_assoc f.front (f.last ∷ []) f.rest ∙ ap (λ (y : List ℕ). f.front ++ ((f.last ∷ []) ++ y)) (sym e) in
        (up_from user r room f.front (f.last ∷ []) _ _ more at cut f.free (omega arith) grew, read_more r room (m.exact room t).room' f e reached.read)

-- ---- a run

-- where turns lead to
pub record RunTo (user : User) (r : Room quel_sorts) (old new : Seen quel_sorts) (before : Room quel_sorts) : Type 0 where
  pub room : Room quel_sorts
  pub known : Knows new.known room
  pub wrote : Wrote old.known new.known before room
  pub reached : Reached user r new.shape room

pub runs_reach : (user : User) (capacity : ℕ) (ks : List ℕ) (old new : Seen quel_sorts) → RunsTurns (quel user) capacity ks old new → (r room : Room quel_sorts) → Knows old.known room → Reached user r old.shape room → RunTo user r old new room
runs_reach user capacity [] old new e r room t reached = rw e (record { room = room; known = t; wrote = wrote_nothing old.known room; reached = reached })
runs_reach user capacity (k ∷ ks) old new (mid, blocked, m, rest) r room t reached =
    let x : MovesIn (quel user) (stage_number k) blocked old mid room = m.exact room t in
    let now : Reached user r mid.shape x.room' = moves_on user capacity (stage_number k) blocked old mid m r room t reached in
    let later : RunTo user r mid new x.room' = runs_reach user capacity ks mid new rest r x.room' x.known now in
    record { room = later.room; known = later.known; wrote = wrote_more old.known mid.known new.known room x.room' later.room x.wrote later.wrote; reached = later.reached }
