-- A step in a room, and the same step where the script ends sooner.
use Rattle.std.proofs.Common.{◌≡◌, ◌⊎◌, inl, inr, refl, sym, ap, subst, ◌∙◌, ℕ, Bool, true, false, List, [], ◌∷◌, ◌++◌}
use Rattle.frame_codec.specs.declared.frame.Frame.{Frame}
use Rattle.network_meaning.specs.Calls.{Shape, join}
use Rattle.network_meaning.specs.Language.{Language}
use Rattle.network_meaning.specs.LocalSteps.{Act, CarriesOut, Checks, Mode, Parses, Processes, Room, Want, Works, outcome_of, read_act}
use Rattle.network_meaning.specs.LocalSteps.{Mode.reading, Mode.waiting, Mode.printing, Mode.idle2, Mode.parsing, Mode.passing2, Mode.idle3, Mode.working3, Mode.passing3, Mode.idle4, Mode.working4, Mode.ended}
use Rattle.network_meaning.specs.LocalSteps.{Want.take_left, Want.take_right, Want.give_left, Want.give_right, Want.work, Want.none}
use Rattle.network_meaning.specs.MessageNetwork.{StageNumber, StageNumber.first, StageNumber.second, StageNumber.third, StageNumber.fourth}
use Rattle.network_meaning.specs.Network.{Between, FrameFromLeft, FrameFromRight, FrameToLeft, FrameToRight, Network, StepsBy, StepsUnlessBlocked, between, want}
use Rattle.network_meaning.specs.Sorts.{Kind, Meaning, Next, Outcome, Read, Kind.answer, Kind.update, Kind.utility}
use Rattle.network_meaning.specs.Sorts.{Meaning.names, Meaning.objects, Meaning.runs, Message.text, Message.cargo, Message.said, Message.end, Message.quit, Next.no_more, Next.bad, Next.found, Outcome.tables, Outcome.made, Outcome.refuses}
use Rattle.quel_meaning.specs.Ranges.{Ranges}
use Rattle.calculus.specs.declared.request.Checked.{Checked}
use Rattle.quel_network.specs.Quel.{quel}
use Rattle.quel_network.specs.Reading.{read}
use Rattle.quel_network.specs.Sorts.{Monitor, User, quel_sorts}
use Rattle.session_laws.proofs.Heard.{ReadsLine, read_cut, read_kind}

-- the room with this left of the script
abbrev pub recut : List ℕ → Room quel_sorts → Room quel_sorts
recut x room = record { db = room.db; shelf = room.shelf; script = x; out = room.out }

-- ---- work

-- what doesn't look at the script
parses_cut : (L : Language quel_sorts) (x : List ℕ) (room : Room quel_sorts) (ranges : Ranges) (next : Next quel_sorts) (act : Act quel_sorts) → Parses L room ranges next act → Parses L (recut x room) ranges next act
parses_cut L x room ranges no_more act p = p
parses_cut L x room ranges (bad r) act p = p
parses_cut L x room ranges (found s line b) act p = checks (L.meaning room.db room.shelf ranges s) p
  where
    checks : (meaning : Meaning quel_sorts) → Checks L room ranges line b meaning act → Checks L (recut x room) ranges line b meaning act
    checks (names ranges') p = p
    checks (objects r) p = p
    checks (runs outcome) p = p

processes_cut : (L : Language quel_sorts) (x : List ℕ) (room : Room quel_sorts) (t : Checked) (kind : Kind) (outcome : Outcome quel_sorts) (act : Act quel_sorts) → Processes L room t kind outcome act → Processes L (recut x room) t kind outcome act
processes_cut L x room t answer (tables ts) act p = p
processes_cut L x room t answer (refuses r) act p = p
processes_cut L x room t answer (made db shelf) act p = p
processes_cut L x room t update (tables ts) act p = p
processes_cut L x room t update (made db shelf) act p = p
processes_cut L x room t update (refuses r) act p = p
processes_cut L x room t utility outcome act p = p

-- what a script has behind its cut is what it had before, and the work is that of the script that is cut
abbrev WorksCut : User → Mode quel_sorts → Room quel_sorts → Act quel_sorts → Room quel_sorts → List ℕ → List ℕ → Type 0
WorksCut user mode room act room' b u = (a : List ℕ) × (room.script ≡ a ++ u) × Works (quel user) mode (recut a room) act (recut b room')

-- the script is left as it was
same_script : (room room' : Room quel_sorts) (b u : List ℕ) → room'.script ≡ room.script → room'.script ≡ b ++ u → room.script ≡ b ++ u
same_script room room' b u same e = sym same ∙ e

carries_cut : (room room' : Room quel_sorts) (outcome : Outcome quel_sorts) (act : Act quel_sorts) (b u : List ℕ) → CarriesOut room outcome act room' → room'.script ≡ b ++ u → (room.script ≡ b ++ u) × CarriesOut (recut b room) outcome act (recut b room')
carries_cut room room' (tables ts) act b u w e = absurd w
carries_cut room room' (made db shelf) act b u w e = (same_script room room' b u (ap (λ (r : Room quel_sorts). r.script) w.1) e, (w.0, ap (recut b) w.1))
carries_cut room room' (refuses r) act b u w e = (same_script room room' b u (ap (λ (r : Room quel_sorts). r.script) w.1) e, (w.0, ap (recut b) w.1))

reads_cut : (user : User) (m : Monitor) (room room' : Room quel_sorts) (act : Act quel_sorts) (b u : List ℕ) → Works (quel user) (reading m) room act room' → room'.script ≡ b ++ u → WorksCut user (reading m) room act room' b u
unfolding quel
reads_cut user m room room' act b u (is, left) e =
    let got = read m room.script room.shelf in
    let (a, script, reads) = read_cut m room.script b u room.shelf (sym (ap (λ (r : Room quel_sorts). r.script) left) ∙ e) in
    (a, script, (is ∙ sym (ap (λ (x : Read quel_sorts). read_act x.monitor x.event) reads), ap (recut b) left ∙ sym (ap (λ (x : Read quel_sorts). record { db = room.db; shelf = x.shelf; script = x.script; out = room.out ++ x.bytes }) reads)))

works_cut : (user : User) (mode : Mode quel_sorts) (room room' : Room quel_sorts) (act : Act quel_sorts) (b u : List ℕ) → Works (quel user) mode room act room' → room'.script ≡ b ++ u → WorksCut user mode room act room' b u
works_cut user (reading m) room room' act b u w e = reads_cut user m room room' act b u w e
works_cut user (printing m o (said s)) room room' act b u w e = (b, same_script room room' b u (ap (λ (r : Room quel_sorts). r.script) w.1) e, (w.0, ap (recut b) w.1))
works_cut user (printing m o end) room room' act b u w e = (b, same_script room room' b u (ap (λ (r : Room quel_sorts). r.script) w.1) e, (w.0, ap (recut b) w.1))
works_cut user (printing m o (text t)) room room' act b u w e = absurd w
works_cut user (printing m o (cargo x)) room room' act b u w e = absurd w
works_cut user (printing m o quit) room room' act b u w e = absurd w
works_cut user (parsing ranges t) room room' act b u w e =
    (b, same_script room room' b u (ap (λ (r : Room quel_sorts). r.script) w.1) e, (parses_cut (quel user) b room ranges ((quel user).next t) act w.0, ap (recut b) w.1))
works_cut user (working3 t) room room' act b u w e =
    (b, same_script room room' b u (ap (λ (r : Room quel_sorts). r.script) w.1) e, (processes_cut (quel user) b room t ((quel user).kind t) ((quel user).outcome t room.db room.shelf) act w.0, ap (recut b) w.1))
works_cut user (working4 x) room room' act b u w e = let c = carries_cut room room' (outcome_of (quel user) x room.db room.shelf) act b u w e in (b, c.0, c.1)
works_cut user (waiting m o) room room' act b u w e = absurd w
works_cut user (idle2 ranges) room room' act b u w e = absurd w
works_cut user (passing2 ranges line t) room room' act b u w e = absurd w
works_cut user idle3 room room' act b u w e = absurd w
works_cut user passing3 room room' act b u w e = absurd w
works_cut user idle4 room room' act b u w e = absurd w
works_cut user ended room room' act b u w e = absurd w

-- ---- the script that work leaves

-- it is what it was, or the monitor has read its first line
abbrev pub KeepsOrReads : Mode quel_sorts → List ℕ → List ℕ → Type 0
KeepsOrReads mode script script' = (script' ≡ script) ⊎ ((m : Monitor) × (mode ≡ reading m) × ReadsLine m script script')

carries_keep : (room room' : Room quel_sorts) (outcome : Outcome quel_sorts) (act : Act quel_sorts) → CarriesOut room outcome act room' → room'.script ≡ room.script
carries_keep room room' (tables ts) act w = absurd w
carries_keep room room' (made db shelf) act w = ap (λ (r : Room quel_sorts). r.script) w.1
carries_keep room room' (refuses r) act w = ap (λ (r : Room quel_sorts). r.script) w.1

reads_kind : (user : User) (m : Monitor) (room room' : Room quel_sorts) (act : Act quel_sorts) → Works (quel user) (reading m) room act room' → KeepsOrReads (reading m) room.script room'.script
unfolding quel
reads_kind user m room room' act (is, left) =
    let now : room'.script ≡ (read m room.script room.shelf).script = ap (λ (r : Room quel_sorts). r.script) left in
    elim (read_kind m room.script room.shelf) [ inl e ↦ inl (now ∙ e) | inr (parts, unopened, f, e) ↦ inr (m, refl, (parts, unopened, f, now ∙ e)) ]

works_kind : (user : User) (mode : Mode quel_sorts) (room room' : Room quel_sorts) (act : Act quel_sorts) → Works (quel user) mode room act room' → KeepsOrReads mode room.script room'.script
works_kind user (reading m) room room' act w = reads_kind user m room room' act w
works_kind user (printing m o (said s)) room room' act w = inl (ap (λ (r : Room quel_sorts). r.script) w.1)
works_kind user (printing m o end) room room' act w = inl (ap (λ (r : Room quel_sorts). r.script) w.1)
works_kind user (printing m o (text t)) room room' act w = absurd w
works_kind user (printing m o (cargo x)) room room' act w = absurd w
works_kind user (printing m o quit) room room' act w = absurd w
works_kind user (parsing ranges t) room room' act w = inl (ap (λ (r : Room quel_sorts). r.script) w.1)
works_kind user (working3 t) room room' act w = inl (ap (λ (r : Room quel_sorts). r.script) w.1)
works_kind user (working4 x) room room' act w = inl (carries_keep room room' (outcome_of (quel user) x room.db room.shelf) act w)
works_kind user (waiting m o) room room' act w = absurd w
works_kind user (idle2 ranges) room room' act w = absurd w
works_kind user (passing2 ranges line t) room room' act w = absurd w
works_kind user idle3 room room' act w = absurd w
works_kind user passing3 room room' act w = absurd w
works_kind user idle4 room room' act w = absurd w
works_kind user ended room room' act w = absurd w

-- ---- a stage between its pipes

abbrev recut_between : List ℕ → Between quel_sorts → Between quel_sorts
recut_between x s = record { stage = s.stage; left_in = s.left_in; left_out = s.left_out; right_out = s.right_out; right_in = s.right_in; room = recut x s.room }

from_left_cut : (user : User) (s s' : Between quel_sorts) (fs : List Frame) (x : List ℕ) → FrameFromLeft (quel user) s fs s' → (s'.room.script ≡ s.room.script) × FrameFromLeft (quel user) (recut_between x s) fs (recut_between x s')
from_left_cut user s s' [] x g = absurd g
from_left_cut user s s' (f ∷ fs) x (stage', taken, e) = (ap (λ (t : Between quel_sorts). t.room.script) e, (stage', taken, ap (recut_between x) e))

from_right_cut : (user : User) (s s' : Between quel_sorts) (fs : List Frame) (x : List ℕ) → FrameFromRight (quel user) s fs s' → (s'.room.script ≡ s.room.script) × FrameFromRight (quel user) (recut_between x s) fs (recut_between x s')
from_right_cut user s s' [] x g = absurd g
from_right_cut user s s' (f ∷ fs) x (stage', taken, e) = (ap (λ (t : Between quel_sorts). t.room.script) e, (stage', taken, ap (recut_between x) e))

to_left_cut : (s s' : Between quel_sorts) (fs : List Frame) (x : List ℕ) → FrameToLeft s fs s' → (s'.room.script ≡ s.room.script) × FrameToLeft (recut_between x s) fs (recut_between x s')
to_left_cut s s' [] x g = absurd g
to_left_cut s s' (f ∷ fs) x e = (ap (λ (t : Between quel_sorts). t.room.script) e, ap (recut_between x) e)

to_right_cut : (s s' : Between quel_sorts) (fs : List Frame) (x : List ℕ) → FrameToRight s fs s' → (s'.room.script ≡ s.room.script) × FrameToRight (recut_between x s) fs (recut_between x s')
to_right_cut s s' [] x g = absurd g
to_right_cut s s' (f ∷ fs) x e = (ap (λ (t : Between quel_sorts). t.room.script) e, ap (recut_between x) e)

between_cut : (user : User) (s s' : Between quel_sorts) (w : Want) (b u : List ℕ) → StepsBy (Works (quel user)) (quel user) s w s' → s'.room.script ≡ b ++ u
    → (a : List ℕ) × (s.room.script ≡ a ++ u) × StepsBy (Works (quel user)) (quel user) (recut_between a s) w (recut_between b s')
between_cut user s s' take_left b u g e = let (same, there) = from_left_cut user s s' s.left_in b g in (b, sym same ∙ e, there)
between_cut user s s' take_right b u g e = let (same, there) = from_right_cut user s s' s.right_in b g in (b, sym same ∙ e, there)
between_cut user s s' give_left b u g e = let (same, there) = to_left_cut s s' s.stage.out_left b g in (b, sym same ∙ e, there)
between_cut user s s' give_right b u g e = let (same, there) = to_right_cut s s' s.stage.out_right b g in (b, sym same ∙ e, there)
between_cut user s s' work b u (act, room', w, is) e =
    let (a, script, there) = works_cut user s.stage.mode s.room room' act b u w (sym (ap (λ (t : Between quel_sorts). t.room.script) is) ∙ e) in
    (a, script, (act, recut b room', there, ap (recut_between b) is))
between_cut user s s' none b u g e = absurd g

between_kind : (user : User) (s s' : Between quel_sorts) (w : Want) → StepsBy (Works (quel user)) (quel user) s w s' → KeepsOrReads s.stage.mode s.room.script s'.room.script
between_kind user s s' take_left g = inl (from_left_cut user s s' s.left_in [] g).0
between_kind user s s' take_right g = inl (from_right_cut user s s' s.right_in [] g).0
between_kind user s s' give_left g = inl (to_left_cut s s' s.stage.out_left [] g).0
between_kind user s s' give_right g = inl (to_right_cut s s' s.stage.out_right [] g).0
between_kind user s s' work (act, room', w, is) =
    subst (λ (x : List ℕ). KeepsOrReads s.stage.mode s.room.script x) (sym (ap (λ (t : Between quel_sorts). t.room.script) is)) (works_kind user s.stage.mode s.room room' act w)
between_kind user s s' none g = absurd g

-- ---- a step of the network

abbrev recut_network : List ℕ → Network quel_sorts → Network quel_sorts
recut_network x n = record { one = n.one; two = n.two; three = n.three; four = n.four; a = n.a; b = n.b; c = n.c; d = n.d; e = n.e; f = n.f; room = recut x n.room }

-- what is left of the script behind a step that ends so is what was left before it that ends so, and the step is that of the scripts without this end
pub step_cut : (user : User) (k : StageNumber) (blocked : Bool) (old new : Shape quel_sorts) (room room' : Room quel_sorts) (b u : List ℕ) → StepsUnlessBlocked (quel user) k (join old room) (join new room') blocked → room'.script ≡ b ++ u
    → (a : List ℕ) × (room.script ≡ a ++ u) × StepsUnlessBlocked (quel user) k (join old (recut a room)) (join new (recut b room')) blocked
step_cut user k true old new room room' b u is e = (b, sym (ap (λ (n : Network quel_sorts). n.room.script) is) ∙ e, ap (recut_network b) is)
step_cut user first false old new room room' b u (s', g, is) e =
    let (a, script, there) = between_cut user (between (join old room) first) s' (want old.one) b u g (sym (ap (λ (n : Network quel_sorts). n.room.script) is) ∙ e) in
    (a, script, (recut_between b s', there, ap (recut_network b) is))
step_cut user second false old new room room' b u (s', g, is) e =
    let (a, script, there) = between_cut user (between (join old room) second) s' (want old.two) b u g (sym (ap (λ (n : Network quel_sorts). n.room.script) is) ∙ e) in
    (a, script, (recut_between b s', there, ap (recut_network b) is))
step_cut user third false old new room room' b u (s', g, is) e =
    let (a, script, there) = between_cut user (between (join old room) third) s' (want old.three) b u g (sym (ap (λ (n : Network quel_sorts). n.room.script) is) ∙ e) in
    (a, script, (recut_between b s', there, ap (recut_network b) is))
step_cut user fourth false old new room room' b u (s', g, is) e =
    let (a, script, there) = between_cut user (between (join old room) fourth) s' (want old.four) b u g (sym (ap (λ (n : Network quel_sorts). n.room.script) is) ∙ e) in
    (a, script, (recut_between b s', there, ap (recut_network b) is))

-- behind a step the script is what it was, or the stage that made it has read its first line
pub step_kind : (user : User) (k : StageNumber) (blocked : Bool) (old new : Shape quel_sorts) (room room' : Room quel_sorts) → StepsUnlessBlocked (quel user) k (join old room) (join new room') blocked
    → KeepsOrReads (between (join old room) k).stage.mode room.script room'.script
step_kind user k true old new room room' is = inl (ap (λ (n : Network quel_sorts). n.room.script) is)
step_kind user first false old new room room' (s', g, is) =
    subst (λ (x : List ℕ). KeepsOrReads old.one.mode room.script x) (sym (ap (λ (n : Network quel_sorts). n.room.script) is)) (between_kind user (between (join old room) first) s' (want old.one) g)
step_kind user second false old new room room' (s', g, is) =
    subst (λ (x : List ℕ). KeepsOrReads old.two.mode room.script x) (sym (ap (λ (n : Network quel_sorts). n.room.script) is)) (between_kind user (between (join old room) second) s' (want old.two) g)
step_kind user third false old new room room' (s', g, is) =
    subst (λ (x : List ℕ). KeepsOrReads old.three.mode room.script x) (sym (ap (λ (n : Network quel_sorts). n.room.script) is)) (between_kind user (between (join old room) third) s' (want old.three) g)
step_kind user fourth false old new room room' (s', g, is) =
    subst (λ (x : List ℕ). KeepsOrReads old.four.mode room.script x) (sym (ap (λ (n : Network quel_sorts). n.room.script) is)) (between_kind user (between (join old room) fourth) s' (want old.four) g)
