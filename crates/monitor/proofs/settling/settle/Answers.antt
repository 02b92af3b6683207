use Rattle.std.proofs.Common.{refl, sym, subst, ℕ, List}
use Rattle.fault_io.specs.Shelves.{MayHaveStored}
use Rattle.net_core.specs.declared.fault.WorkFault.TheVariants as faults
use Rattle.monitor.specs.declared.event.Event.{Event}
use Rattle.monitor.specs.Faults.{IsOfStoring}
use Rattle.monitor.specs.Settling.{MayBeStored}
use Rattle.monitor.proofs.Counting.{shelf_same, shelf_unused}
use Rattle.monitor.proofs.Erring.{handed_on, if_err, on_err, on_err_any}
use Rattle.monitor.proofs.settling.settle.Goals as goal

pub returns-in-GoesOn-clause-counts : goal.returns-in-GoesOn-clause-counts
returns-in-GoesOn-clause-counts g c = shelf_same _ _

pub returns-in_err-send-in-Sends-clause-failed : goal.returns-in_err-send-in-Sends-clause-failed
returns-in_err-send-in-Sends-clause-failed g c = λ known there. on_err_any c.from_residual.result (subst (λ (e : Event). MayBeStored e known c.args.text.now (g.H.Shelf.files c.args.shelf.now)) (sym c.in-Sends.is) there)

pub returns-in_err-send-in-Sends-clause-counts : goal.returns-in_err-send-in-Sends-clause-counts
returns-in_err-send-in-Sends-clause-counts g c =
    let r = c.from_residual.result in
    shelf_unused (g.H.Shelf.faults c.args.shelf.now) faults.OutOfMemory r (handed_on r faults.OutOfMemory c.from_residual.ensures.1) refl

pub returns-in_err-send-in-Sends-clause-inside : goal.returns-in_err-send-in-Sends-clause-inside
returns-in_err-send-in-Sends-clause-inside g c =
    let r = c.from_residual.result in
    if_err r faults.OutOfMemory (λ f. IsOfStoring f) (handed_on r faults.OutOfMemory c.from_residual.ensures.1) tt

pub returns-in_ok-send-in-Sends-clause-counts : goal.returns-in_ok-send-in-Sends-clause-counts
returns-in_ok-send-in-Sends-clause-counts g c = shelf_same _ _

pub returns-in_err-leave-in-Leaves-clause-failed : goal.returns-in_err-leave-in-Leaves-clause-failed
returns-in_err-leave-in-Leaves-clause-failed g c = λ known there. on_err_any c.from_residual-in_err-leave-in-Leaves.result (subst (λ (e : Event). MayBeStored e known c.args.text.now (g.H.Shelf.files c.args.shelf.now)) (sym c.in-Leaves.is) there)

pub returns-in_err-leave-in-Leaves-clause-counts : goal.returns-in_err-leave-in-Leaves-clause-counts
returns-in_err-leave-in-Leaves-clause-counts g c =
    let r = c.from_residual-in_err-leave-in-Leaves.result in
    shelf_unused (g.H.Shelf.faults c.args.shelf.now) faults.OutOfMemory r (handed_on r faults.OutOfMemory c.from_residual-in_err-leave-in-Leaves.ensures.1) refl

pub returns-in_err-leave-in-Leaves-clause-inside : goal.returns-in_err-leave-in-Leaves-clause-inside
returns-in_err-leave-in-Leaves-clause-inside g c =
    let r = c.from_residual-in_err-leave-in-Leaves.result in
    if_err r faults.OutOfMemory (λ f. IsOfStoring f) (handed_on r faults.OutOfMemory c.from_residual-in_err-leave-in-Leaves.ensures.1) tt

pub returns-in_ok-leave-in-Leaves-clause-counts : goal.returns-in_ok-leave-in-Leaves-clause-counts
returns-in_ok-leave-in-Leaves-clause-counts g c = shelf_same _ _

pub returns-in-Stores-clause-failed : goal.returns-in-Stores-clause-failed
returns-in-Stores-clause-failed g c = λ known there.
    on_err c.store.result
    (λ h. subst (λ (e : Event). MayBeStored e known c.args.text.now (g.H.Shelf.files c.store.new.shelf)) (sym c.in-Stores.is) (subst (λ (n : List ℕ). MayHaveStored n c.args.text.now known (g.H.Shelf.files c.store.new.shelf)) c.items.ensures h))
    (c.store.ensures.failed known there)
