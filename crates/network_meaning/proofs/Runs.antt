-- The equation over the steps of a list.
use Rattle.std.proofs.Common.{ℕ, ◌+◌, ◌<◌, Bool, List, [], ◌∷◌, ◌++◌, length, take, get_or, refl, sym, ap, subst, ◌∙◌, append-nil, append_assoc}
use Rattle.std.proofs.KnownBytes.{Appends-nil, Appends-trans}
use Rattle.std.proofs.lemmas.List.{take_more}
use Rattle.network_meaning.specs.Sorts.{Sorts}
use Rattle.network_meaning.specs.Language.{Language}
use Rattle.network_meaning.specs.Laws.{Laws}
use Rattle.network_meaning.specs.LocalSteps.{Room}
use Rattle.network_meaning.specs.MessageNetwork.{StageNumber}
use Rattle.network_meaning.specs.Network.{NetworkStep, StepsUnlessBlocked}
use Rattle.network_meaning.specs.Calls.{join, Seen, Known, Wrote, Moves, MovesIn, stage_number, RunsTurns, KeptNow, KeepsAll}
use Rattle.network_meaning.proofs.StatementsWhole.{keeps_end}
use Rattle.network_meaning.proofs.Whole.{Kept, equation}

-- ---- what was written

-- nothing was
pub wrote_nothing : {S : Sorts} (known : Known S) (room : Room S) → Wrote known known room room
wrote_nothing known room = ([], sym (append-nil room.out), Appends-nil known.out)

-- one behind the other
pub wrote_more : {S : Sorts} (a b c : Known S) (r s t : Room S) → Wrote a b r s → Wrote b c s t → Wrote a c r t
wrote_more a b c r s t (xs, is, grew) (ys, is', grew') = (xs ++ ys, is' ∙ ap (λ x. x ++ ys) is ∙ append_assoc r.out xs ys, Appends-trans a.out b.out c.out xs ys grew grew')

-- ---- the equation

pub moves_keeps : {S : Sorts} (L : Language S) (laws : Laws L) (capacity : ℕ) (k : StageNumber) (blocked : Bool) (old new : Seen S) → Moves L capacity k blocked old new → KeepsAll L old new
moves_keeps {S} L laws capacity k blocked old new m r e o =
    let x : MovesIn L k blocked old new r = m.exact r e in
    let step : NetworkStep L capacity k (join old.shape r) (join new.shape x.room') = subst (λ b. StepsUnlessBlocked L k (join old.shape r) (join new.shape x.room') b) (sym (m.is r)) x.step in
    let kept : Kept L (join old.shape r) (join new.shape x.room') = equation L laws capacity k (join old.shape r) (join new.shape x.room') o step in
    record { room = x.room'; known = x.known; wrote = x.wrote; orderly = kept.orderly; same = kept.same; ends = keeps_end L laws capacity k (join old.shape r) (join new.shape x.room') o step }

pub runs_keeps : {S : Sorts} (L : Language S) (laws : Laws L) (capacity : ℕ) (ks : List ℕ) (old new : Seen S) → RunsTurns L capacity ks old new → KeepsAll L old new
runs_keeps {S} L laws capacity [] old new e r t o = rw e (record { room = r; known = t; wrote = wrote_nothing old.known r; orderly = o; same = refl; ends = λ e h. h })
runs_keeps {S} L laws capacity (k ∷ ks) old new (mid, blocked, m, rest) r t o =
    let now : KeptNow L r old mid = moves_keeps L laws capacity (stage_number k) blocked old mid m r t o in
    let later : KeptNow L now.room mid new = runs_keeps L laws capacity ks mid new rest now.room now.known now.orderly in
    record { room = later.room; known = later.known; wrote = wrote_more old.known mid.known new.known r now.room later.room now.wrote later.wrote; orderly = later.orderly; same = later.same ∙ now.same; ends = λ e h. later.ends e (now.ends e h) }

Runs-more : {S : Sorts} (L : Language S) (capacity : ℕ) (ks : List ℕ) (k : ℕ) (blocked : Bool) (a b c : Seen S) → RunsTurns L capacity ks a b → Moves L capacity (stage_number k) blocked b c → RunsTurns L capacity (ks ++ k ∷ []) a c
Runs-more {S} L capacity [] k blocked a b c e m = (c, blocked, subst (λ (x : Seen S). Moves L capacity (stage_number k) blocked x c) e m, refl)
Runs-more L capacity (x ∷ ks) k blocked a b c (mid, bl, s, rest) m = (mid, bl, s, Runs-more L capacity ks k blocked mid b c rest m)

pub one_more : {S : Sorts} (L : Language S) (capacity : ℕ) (turns : List ℕ) (i : ℕ) (blocked : Bool) (a b c : Seen S) → i < length turns → RunsTurns L capacity (take i turns) a b →
    Moves L capacity (stage_number (get_or turns i 0)) blocked b c → RunsTurns L capacity (take (i + 1) turns) a c
one_more L capacity turns i blocked a b c lt s m = rw (take_more turns i 0 lt) (Runs-more L capacity (take i turns) (get_or turns i 0) blocked a b c s m)
