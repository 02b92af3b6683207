use Rattle.std.proofs.Common.{refl}
use Rattle.net_core.specs.declared.fault.WorkFault.TheVariants as faults
use Rattle.monitor.specs.Faults.{IsOfPrinting}
use Rattle.monitor.proofs.Counting.{sink_unused}
use Rattle.monitor.proofs.Erring.{handed_on, if_err}
use Rattle.monitor.proofs.printing.print.Goals as goal

pub returns-in_err-push_said-clause-counts : goal.returns-in_err-push_said-clause-counts
returns-in_err-push_said-clause-counts g c =
    let r = c.from_residual.result in
    sink_unused (g.K.Sink.faults c.args.sink.now) (g.K.Sink.stalls c.args.sink.now) faults.OutOfMemory r (handed_on r faults.OutOfMemory c.from_residual.ensures.1) (refl, refl)

pub returns-in_err-push_said-clause-inside : goal.returns-in_err-push_said-clause-inside
returns-in_err-push_said-clause-inside g c =
    let r = c.from_residual.result in
    if_err r faults.OutOfMemory (λ f. IsOfPrinting f) (handed_on r faults.OutOfMemory c.from_residual.ensures.1) tt
