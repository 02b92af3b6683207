-- What a stage did in the room, as a step of a stage between its pipes.
use Rattle.std.proofs.Common.{IfOk, IsOk, OnOk, OnErr, IsErrOf, ◌≡◌, inl, inr, ℕ, Bool, false, List, Result, Ok, Err, refl}
use Rattle.frame_codec.specs.declared.frame.Frame.{Frame}
use Rattle.net_core.specs.Causes.{IsCaused, MayNotWork}
use Rattle.net_core.specs.declared.fault.WorkFault.{WorkFault}
use Rattle.net_core.specs.declared.fault.WorkFault.TheVariants as faults
use Rattle.net_core.specs.declared.steps.Moved.{Moved}
use Rattle.net_core.specs.declared.steps.Moved.TheVariants.{Stepped}
use Rattle.net_core.specs.Steps.{PipedDone, PipedMoves}
use Rattle.net_core.specs.Reads.{ReadsOn, Within}
use Rattle.net_core.specs.Spares.{CountsOnly, LeavesEnds, Spares}
use Rattle.net_core.specs.Known.{FailedWork, KeepsDatabase, Later, Outside, known}
use Rattle.net_core.specs.Wants.{was_blocked}
use Rattle.network_meaning.specs.Calls.{Known, WorkDone}
use Rattle.network_meaning.specs.Language.{Language}
use Rattle.network_meaning.specs.LocalSteps.{Want.work}
use Rattle.network_meaning.specs.Network.{LocalState, want}
use Rattle.quel_network.specs.Quel.{quel}
use Rattle.quel_network.specs.Sorts.{User, quel_sorts}
use Rattle.net_core.proofs.AtPipes.{at_pipes, if_ok, on_err}

worked_moves : (L : Language quel_sorts) (l r : ℕ) (s s' : LocalState quel_sorts) (li lo ro ri : List Frame) (o o' : Known quel_sorts) (result : Result Moved WorkFault) → want s ≡ work →
    IfOk result (λ moved. moved ≡ Stepped) → OnOk result (WorkDone L s s' o o') → IfOk result (λ moved. PipedMoves L l r (was_blocked moved) (at_pipes s li lo ro ri) (at_pipes s' li lo ro ri) o o')
worked_moves L l r s s' li lo ro ri o o' (Err fault) e m w = tt
worked_moves L l r s s' li lo ro ri o o' (Ok moved) e m w =
    rw m (record {
      is = λ room. rw e refl;
      shape = λ room. rw e (w.act, room, (w.shape, refl), rw w.is refl);
      fit = λ room d s. rw e (w.fit room.db room.shelf d s);
      exact = λ room t. let x = w.exact room t in record { room' = x.room'; known = x.known; wrote = x.wrote; step = rw e (w.act, x.room', x.works, rw w.is refl) };
    })

goes : (moved : Moved) (b : Bool) → moved ≡ Stepped → b ≡ false → b ≡ was_blocked moved
goes moved b m e = rw m e

pub worked : (l r : ℕ) (s s' : LocalState quel_sorts) (li lo ro ri : List Frame) (o o' : Outside) (h h' p p' : ℕ) (serves serves' : User → Type 0) (result : Result Moved WorkFault) → want s ≡ work →
    IfOk result (λ moved. moved ≡ Stepped) → ((user : User) → serves user → OnOk result (WorkDone (quel user) s s' (known o) (known o'))) →
    ((user : User) → serves user → OnErr result (FailedWork (quel user) s.mode o o')) → ((user : User) → serves user → IsErrOf result faults.Unlawful → MayNotWork (quel user) s.mode o) →
    OnOk result (KeepsDatabase o o') → Later o o' → IsCaused h o o' result → CountsOnly o o' result → Spares o o' result → ReadsOn s.mode h h' o o' (IsErrOf result faults.Source) (IsOk result) → Within h h' result → ((p ≡ 1 → ⊥) → LeavesEnds h h' o o' result) → ((user : User) → serves user → serves' user) → p' ≡ p →
    PipedDone l r (at_pipes s li lo ro ri) (at_pipes s' li lo ro ri) o o' h h' p p' serves serves' result
worked l r s s' li lo ro ri o o' h h' p p' serves serves' result e stepped works failed unlawful database later cause counts spares reads within ends serve place = record {
  blocked = λ room. if_ok result _ _ (λ moved m. goes moved _ m (rw e refl)) stepped;
  steps = λ user x. worked_moves (quel user) l r s s' li lo ro ri (known o) (known o') result e stepped (works user x);
  failed = λ user x. on_err result _ _ (λ f. inl (e, f)) (failed user x);
  unlawful = λ user x u. inr (e, unlawful user x u);
  untouched = λ n. absurd (n e);
  cause = cause;
  later = later;
  counts = counts;
  spares = spares;
  reads = reads;
  within = within;
  ends = ends;
  database = database;
  serve = serve;
  placed = place;
}
