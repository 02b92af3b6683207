use Rattle.stage_util.proofs.Causes.{base_cause}
use Rattle.stage_util.proofs.Layings.{laid_err, laid_ok}
use Rattle.stage_util.proofs.laying.apply.Goals as goal

pub returns-in-Ok-clause-done : goal.returns-in-Ok-clause-done
returns-in-Ok-clause-done g c = λ b asked.
    let a = g.B.Base.asks b c.args.base.now asked in
    let h = g.B.Base.asks c.apply.new.self c.hand_over.new.self (c.hand_over.ensures.asked c.apply.new.self (g.B.Base.starts c.apply.new.self)) in
    laid_ok c.args.change.now c.args.answer (g.B.Base.database b) (g.B.Base.database c.args.base.now) (g.B.Base.database c.apply.new.self) (g.B.Base.database c.hand_over.new.self) (g.B.Base.schema c.hand_over.new.self)
    (g.B.Base.clock b) (g.B.Base.clock c.args.base.now) (g.B.Base.clock c.apply.new.self) (g.B.Base.clock c.hand_over.new.self) (g.B.Base.left_since b) (g.B.Base.left_since c.args.base.now) (g.B.Base.left_since c.apply.new.self) (g.B.Base.left_since c.hand_over.new.self)
    c.requires.is_done (g.B.Base.asks_keep b c.args.base.now asked).0 a.nothing_else c.in-Ok.ensures.known c.in-Ok.ensures.crash c.in-Ok.ensures.durable c.hand_over.ensures.kept c.hand_over.ensures.forgotten h.nothing_else (g.B.Base.counts_now c.hand_over.new.self)

pub returns-in-Err-clause-done : goal.returns-in-Err-clause-done
returns-in-Err-clause-done g c = λ b asked.
    let a = g.B.Base.asks b c.args.base.now asked in
    laid_err c.args.change.now c.in-Err.fault c.of_base.result (g.B.Base.database b) (g.B.Base.database c.args.base.now) (g.B.Base.database c.apply.new.self) (g.B.Base.schema c.apply.new.self)
    (g.B.Base.clock b) (g.B.Base.clock c.args.base.now) (g.B.Base.clock c.apply.new.self) (g.B.Base.left_since b) (g.B.Base.left_since c.args.base.now) (g.B.Base.left_since c.apply.new.self)
    c.of_base.ensures (g.B.Base.asks_keep b c.args.base.now asked).0 a.nothing_else c.in-Err.ensures.failed c.in-Err.ensures.crash c.in-Err.ensures.no_memory

pub returns-in-Err-clause-cause : goal.returns-in-Err-clause-cause
returns-in-Err-clause-cause g c = base_cause (g.B.Base.database c.args.base.now) (g.B.Base.faults c.args.base.now) (g.B.Base.faults c.apply.new.self) 0 c.in-Err.fault c.of_base.result c.of_base.ensures c.in-Err.ensures.cause.later c.in-Err.ensures.cause.caused
