-- The statements that are finished over the steps of a list.
use Rattle.std.proofs.Common.{ℕ, Bool, List, [], ◌∷◌, refl, sym, subst}
use Rattle.network_meaning.specs.Sorts.{Sorts}
use Rattle.network_meaning.specs.Language.{Language}
use Rattle.network_meaning.specs.Laws.{Laws}
use Rattle.network_meaning.specs.LocalSteps.{Room}
use Rattle.network_meaning.specs.MessageNetwork.{StageNumber}
use Rattle.network_meaning.specs.Network.{Orderly, NetworkStep, StepsUnlessBlocked}
use Rattle.network_meaning.specs.Calls.{join, Seen, Knows, Moves, MovesIn, stage_number, RunsTurns}
use Rattle.network_meaning.specs.Statements.{FinishedNow, FinishesInOrder}
use Rattle.network_meaning.proofs.Runs.{wrote_more, wrote_nothing}
use Rattle.network_meaning.proofs.Whole.{Kept, equation}
use Rattle.network_meaning.proofs.StatementsWhole.{finishes, front_of, fronts}

-- after a step the network is orderly, and a front is finished
record Stepped {S : Sorts} (L : Language S) (r : Room S) (old new : Seen S) : Type 0 where
  pub now : FinishedNow L r old new
  pub orderly : Orderly L (join new.shape now.room)

moves_finish : {S : Sorts} (L : Language S) (laws : Laws L) (capacity : ℕ) (k : StageNumber) (blocked : Bool) (old new : Seen S) (r : Room S) → Moves L capacity k blocked old new → Knows old.known r → Orderly L (join old.shape r) → Stepped L r old new
moves_finish L laws capacity k blocked old new r m e o =
    let x : MovesIn L k blocked old new r = m.exact r e in
    let st : NetworkStep L capacity k (join old.shape r) (join new.shape x.room') = subst (λ b. StepsUnlessBlocked L k (join old.shape r) (join new.shape x.room') b) (sym (m.is r)) x.step in
    let kept : Kept L (join old.shape r) (join new.shape x.room') = equation L laws capacity k (join old.shape r) (join new.shape x.room') o st in
    record {
      now = record { room = x.room'; known = x.known; wrote = x.wrote; front = front_of L _ _ (finishes L laws capacity k (join old.shape r) (join new.shape x.room') o st) };
      orderly = kept.orderly;
    }

pub runs_finish : {S : Sorts} (L : Language S) (laws : Laws L) (capacity : ℕ) (ks : List ℕ) (old new : Seen S) → RunsTurns L capacity ks old new → FinishesInOrder L old new
runs_finish {S} L laws capacity [] old new e r t o = rw e (record { room = r; known = t; wrote = wrote_nothing old.known r; front = record { finished = []; left = refl; database = refl } })
runs_finish {S} L laws capacity (k ∷ ks) old new (mid, blocked, m, rest) r t o =
    let step : Stepped L r old mid = moves_finish L laws capacity (stage_number k) blocked old mid r m t o in
    let later : FinishedNow L step.now.room mid new = runs_finish L laws capacity ks mid new rest step.now.room step.now.known step.orderly in
    record { room = later.room; known = later.known; wrote = wrote_more old.known mid.known new.known r step.now.room later.room step.now.wrote later.wrote; front = fronts L _ _ _ step.now.front later.front }
