-- What a step of the network owes by the laws of the language.
use Rattle.std.proofs.Common.{OnErr, OnOk, IsErrOf, ℕ, Result}
use Rattle.net_core.specs.declared.fault.WorkFault.{WorkFault}
use Rattle.net_core.specs.declared.fault.WorkFault.TheVariants as faults
use Rattle.net_core.specs.declared.steps.Moved.{Moved}
use Rattle.net_core.specs.Steps.{StepDone}
use Rattle.net_core.specs.Known.{Outside}
use Rattle.net_core.specs.Wants.{was_blocked}
use Rattle.net_core.specs.Whole.{IsDisorderly, WroteFront, seen}
use Rattle.network_meaning.specs.Calls.{KeepsAll, Shape, stage_number}
use Rattle.network_meaning.specs.MessageNetwork.{StageNumber}
use Rattle.network_meaning.specs.Statements.{FinishesInOrder}
use Rattle.network_meaning.proofs.Runs.{moves_keeps}
use Rattle.quel_network.specs.Quel.{quel}
use Rattle.quel_network.specs.Sorts.{User, quel_sorts}
use Rattle.net_core.proofs.AtPipes.{on_err, on_ok}
use Rattle.net_core.proofs.Lawful.{disorderly, step_finishes, wrote_front}
use Rattle.quel_network.specs.Laws.{quel_laws}

pub done_wrote : (capacity : ℕ) (k : StageNumber) (n n' : Shape quel_sorts) (o o' : Outside) (h h' one one' : ℕ) (serves serves' : User → Type 0) (numbers numbers' : Type 0) (result : Result Moved WorkFault) →
    StepDone capacity k n n' o o' h h' one one' serves serves' numbers numbers' result → (user : User) → serves user → OnErr result (WroteFront (quel user) (seen n o) o')
done_wrote capacity k n n' o o' h h' one one' serves serves' numbers numbers' result d user x = on_err result _ _ (λ f. wrote_front (quel user) (quel_laws user) k n o o' f) (d.failed user x)

pub done_disorderly : (capacity : ℕ) (k : StageNumber) (n n' : Shape quel_sorts) (o o' : Outside) (h h' one one' : ℕ) (serves serves' : User → Type 0) (numbers numbers' : Type 0) (result : Result Moved WorkFault) →
    StepDone capacity k n n' o o' h h' one one' serves serves' numbers numbers' result → (user : User) → serves user → IsErrOf result faults.Unlawful → IsDisorderly (quel user) (seen n o)
done_disorderly capacity k n n' o o' h h' one one' serves serves' numbers numbers' result d user x u = disorderly (quel user) (quel_laws user) k n o (d.unlawful user x u)

pub done_keeps : (capacity : ℕ) (k : StageNumber) (n n' : Shape quel_sorts) (o o' : Outside) (h h' one one' : ℕ) (serves serves' : User → Type 0) (numbers numbers' : Type 0) (result : Result Moved WorkFault) →
    StepDone capacity k n n' o o' h h' one one' serves serves' numbers numbers' result → (user : User) → serves user → OnOk result (KeepsAll (quel user) (seen n o) (seen n' o'))
done_keeps capacity k n n' o o' h h' one one' serves serves' numbers numbers' result d user x =
    on_ok result _ _ (λ moved m. moves_keeps (quel user) (quel_laws user) capacity k (was_blocked moved) (seen n o) (seen n' o') m) (d.steps user x)

pub done_finishes : (capacity k : ℕ) (n n' : Shape quel_sorts) (o o' : Outside) (h h' one one' : ℕ) (serves serves' : User → Type 0) (numbers numbers' : Type 0) (result : Result Moved WorkFault) →
    StepDone capacity (stage_number k) n n' o o' h h' one one' serves serves' numbers numbers' result → (user : User) → serves user → OnOk result (FinishesInOrder (quel user) (seen n o) (seen n' o'))
done_finishes capacity k n n' o o' h h' one one' serves serves' numbers numbers' result d user x =
    on_ok result _ _ (λ moved m. step_finishes (quel user) (quel_laws user) capacity k (was_blocked moved) (seen n o) (seen n' o') m) (d.steps user x)
