use Rattle.std.proofs.Common.{◌∙◌}
use Rattle.net_tests.proofs.Carrying.{carried_err, carried_ok, takes}
use Rattle.net_tests.proofs.carrier.carry_out.Goals as goal

pub apply-requires : goal.apply-requires
apply-requires g c = λ db known. takes c.of.result db (c.of.ensures ∙ c.new.ensures.items) (g.B.Base.lawful c.args.base.now db (g.B.Base.own c.args.base.now db known))

pub returns-in-Ok : goal.returns-in-Ok
returns-in-Ok g c =
    let a = g.B.Base.asks c.apply.new.self c.hand_over.new.self (c.hand_over.ensures.asked c.apply.new.self (g.B.Base.starts c.apply.new.self)) in
    record {
      done = carried_ok c.of.result _ (g.B.Base.database c.apply.new.self) _ _ _ (g.B.Base.faults c.apply.new.self) _ _ (g.B.Base.clock c.apply.new.self) _ _ (g.B.Base.left_since c.apply.new.self) _ _ (c.of.ensures ∙ c.new.ensures.items)
          c.in-Ok.ensures.known c.in-Ok.ensures.crash c.in-Ok.ensures.durable c.in-Ok.ensures.cause.caused c.hand_over.ensures.kept c.hand_over.ensures.faults c.hand_over.ensures.forgotten a.nothing_else (g.B.Base.counts_now c.hand_over.new.self);
    }

pub returns : goal.returns
returns g c = record {
  done = carried_err c.of.result _ _ _ _ _ _ _ _ _ c.in-Err.fault c.of_base.result (c.of.ensures ∙ c.new.ensures.items) c.of_base.ensures c.in-Err.ensures.failed c.in-Err.ensures.crash c.in-Err.ensures.no_memory c.in-Err.ensures.cause.later c.in-Err.ensures.cause.caused;
}
