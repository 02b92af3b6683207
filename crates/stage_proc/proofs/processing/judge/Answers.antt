use Rattle.std.proofs.Common.{◌∙◌, subst, sym}
use Rattle.net_core.specs.declared.fault.WorkFault.{WorkFault}
use Rattle.stage_proc.specs.Stopping.{MayComeHere}
use Rattle.stage_proc.proofs.Made.{base_cause, fault_is, no_base_unlawful}
use Rattle.stage_proc.proofs.processing.judge.Goals as goal

pub returns-in-Ok-clause-known : goal.returns-in-Ok-clause-known
returns-in-Ok-clause-known g c = λ db e. c.in-Ok.ensures.known db (g.B.Base.own c.args.base.now db e)

pub returns-in-Ok-clause-cause : goal.returns-in-Ok-clause-cause
returns-in-Ok-clause-cause g c = record { later = c.in-Ok.ensures.cause.later; caused = c.in-Ok.ensures.cause.caused }

pub returns-in-Err-clause-judged : goal.returns-in-Err-clause-judged
returns-in-Err-clause-judged g c = λ wrong. no_base_unlawful c.in-Err.fault (sym c.of_base.ensures ∙ fault_is c.of_base.result _ wrong)

pub returns-in-Err-clause-cause : goal.returns-in-Err-clause-cause
returns-in-Err-clause-cause g c = record {
  later = c.in-Err.ensures.cause.later;
  caused = subst (λ (f : WorkFault). MayComeHere (g.B.Base.database c.args.base.now) (g.B.Base.faults c.args.base.now) (g.B.Base.faults c.fit_tree.new.base) f) (sym c.of_base.ensures) (base_cause (g.B.Base.database c.args.base.now) (g.B.Base.faults c.args.base.now) (g.B.Base.faults c.fit_tree.new.base) c.in-Err.fault c.in-Err.ensures.cause.caused);
}
