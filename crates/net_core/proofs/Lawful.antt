-- What a step owes by the laws of the language: of what was written, and of what is unlawful.
use Rattle.std.proofs.Common.{◌≡◌, inl, inr, ℕ, Bool, true, false, List, [], ◌∷◌, ◌++◌, Some, refl, sym, ap, subst, ◌∙◌, append-nil, append_assoc}
use Rattle.std.proofs.KnownBytes.{Appends-nil, Appends-trans}
use Rattle.frame_codec.specs.declared.frame.Frame.{Frame}
use Rattle.net_core.specs.Causes.{MayNotTake}
use Rattle.net_core.specs.Known.{FailedStep, Outside}
use Rattle.net_core.specs.Whole.{IsDisorderly, MayNotStep, WroteFront, seen, state_at}
use Rattle.network_meaning.specs.Calls.{KeepsAll, Moves, Seen, Shape, TakenAs, join, stage_number}
use Rattle.network_meaning.specs.Failing.{Begins, work_bytes}
use Rattle.network_meaning.specs.Language.{Language}
use Rattle.network_meaning.specs.Laws.{Laws}
use Rattle.network_meaning.specs.Lawful.{FitWork, Lawful, LawfulAs, LawfulBehind, comes, in_front}
use Rattle.network_meaning.specs.LocalSteps.{Want, Want.take_left, Want.take_right, Want.give_left, Want.give_right, Want.work, Want.none, Room as NetworkRoom}
use Rattle.network_meaning.specs.MessageNetwork.{StageNumber, StageNumber.first, StageNumber.second, StageNumber.third, StageNumber.fourth}
use Rattle.network_meaning.specs.Network.{Between, HasTakenLeft, HasTakenRight, LocalState, between, bytes_in_all, done_act, want}
use Rattle.network_meaning.specs.Statements.{FinishesInOrder}
use Rattle.network_meaning.proofs.FailedWork.{failed_work}
use Rattle.network_meaning.proofs.NothingUnlawful.{fit_work, lawful}
use Rattle.network_meaning.proofs.StatementsRuns.{runs_finish}
use Rattle.quel_network.specs.Sorts.{quel_sorts}

stage_is : (k : StageNumber) (n : Shape quel_sorts) (r : NetworkRoom quel_sorts) → (between (join n r) k).stage ≡ state_at n k
stage_is first n r = refl
stage_is second n r = refl
stage_is third n r = refl
stage_is fourth n r = refl

-- ---- what was written

pub wrote_front : (L : Language quel_sorts) (laws : Laws L) (k : StageNumber) (n : Shape quel_sorts) (before after : Outside) → FailedStep L (state_at n k) before after → WroteFront L (seen n before) after
wrote_front L laws k n before after (inl (w, f)) r t o =
    let part = f.part r t in
    (part.front, part.wrote, failed_work L laws k (join n r) part.front o (subst (λ (s : LocalState quel_sorts). Begins part.front (work_bytes L s.mode r)) (sym (stage_is k n r)) part.begins))
wrote_front L laws k n before after (inr e) r t o =
    ([], rw e (Appends-nil before.output), subst (λ (x : List ℕ). Begins x (bytes_in_all L (join n r))) (sym (append-nil r.out)) (_, refl))

-- behind steps that keep the bytes in all, a front of them is one of those before
pub wrote_behind : (L : Language quel_sorts) (old mid : Seen quel_sorts) (after : Outside) → KeepsAll L old mid → WroteFront L mid after → WroteFront L old after
wrote_behind L old mid after keeps wrote r t o =
    let kept = keeps r t o in
    let (xs, is, grew) = kept.wrote in
    let (ys, grew', begins) = wrote kept.room kept.known kept.orderly in (
      xs ++ ys,
      Appends-trans old.known.out mid.known.out after.output xs ys grew grew',
      (begins.0, sym kept.same ∙ begins.1 ∙ ap (λ (x : List ℕ). (x ++ ys) ++ begins.0) is ∙ ap (λ (x : List ℕ). x ++ begins.0) (append_assoc r.out xs ys)),
    )

-- ---- what is unlawful

taken_left : (L : Language quel_sorts) (s : LocalState quel_sorts) (f : Frame) (more : Bool) → LawfulBehind L s.mode s.got_left f more → (after : LocalState quel_sorts) × HasTakenLeft L s f more after
taken_left L s f true (go, on) = (_, (go, refl))
taken_left L s f false (act, e) = (done_act L s act [] s.got_right, (act, e, refl))

taken_right : (L : Language quel_sorts) (s : LocalState quel_sorts) (f : Frame) (more : Bool) → LawfulBehind L s.mode s.got_right f more → (after : LocalState quel_sorts) × HasTakenRight L s f more after
taken_right L s f true (go, on) = (_, (go, refl))
taken_right L s f false (act, e) = (done_act L s act s.got_left [], (act, e, refl))

taken_as : (L : Language quel_sorts) (s : Between quel_sorts) (f : Frame) (w : Want) → in_front s w ≡ Some f → LawfulAs L s.stage f w → (after : LocalState quel_sorts) × TakenAs L s.stage f w after
taken_as L s f take_left e h = taken_left L s.stage f _ h
taken_as L s f take_right e h = taken_right L s.stage f _ h
taken_as L s f give_left e h = cc
taken_as L s f give_right e h = cc
taken_as L s f work e h = cc
taken_as L s f none e h = cc

-- what may not be taken isn't lawful
not_taken : (L : Language quel_sorts) (s : Between quel_sorts) (f : Frame) → comes s ≡ Some f → Lawful L s.stage f → MayNotTake L s.stage f → ⊥
not_taken L s f e h n = let taken = taken_as L s f (want s.stage) e h.1 in n taken.0 (h.0, taken.1)

pub disorderly : (L : Language quel_sorts) (laws : Laws L) (k : StageNumber) (n : Shape quel_sorts) (before : Outside) → MayNotStep L k n before → IsDisorderly L (seen n before)
disorderly L laws k n before (inl (f, comes_here, refused)) r t o =
    not_taken L (between (join n r) k) f (comes_here r) (lawful L laws k (join n r) f o (comes_here r)) (subst (λ (s : LocalState quel_sorts). MayNotTake L s f) (sym (stage_is k n r)) refused)
disorderly L laws k n before (inr (w, unfit)) r t o = unfit r.db r.shelf t.db t.shelf (subst (λ (s : LocalState quel_sorts). FitWork L s.mode r.db) (stage_is k n r) (fit_work L k (join n r) o))

pub disorderly_behind : (L : Language quel_sorts) (old mid : Seen quel_sorts) → KeepsAll L old mid → IsDisorderly L mid → IsDisorderly L old
disorderly_behind L old mid keeps bad r t o = let kept = keeps r t o in bad kept.room kept.known kept.orderly

-- ---- what a step keeps

pub step_finishes : (L : Language quel_sorts) (laws : Laws L) (capacity k : ℕ) (blocked : Bool) (old new : Seen quel_sorts) → Moves L capacity (stage_number k) blocked old new → FinishesInOrder L old new
step_finishes L laws capacity k blocked old new m = runs_finish L laws capacity (k ∷ []) old new (new, blocked, m, refl)
