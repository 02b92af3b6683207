use Rattle.std.proofs.Common.{ℕ, Err, subst, ◌∙◌}
use Rattle.net_core.specs.LoopFaults.{fault_bytes}
use Rattle.net_core.specs.Sides.{Outlet, Wrote, outlet, sides}
use Rattle.net_core.proofs.Endings.{done_err, done_ok, ran_seven}
use Rattle.net_core.proofs.run.stage_loop.Goals as goal

pub returns-in-Ok-clause-done : goal.returns-in-Ok-clause-done
returns-in-Ok-clause-done g c = done_ok (g.T.Stage.serves c.args.stage.now) _ _ _ _ _ _ _ _ _ _ _ _ _ c.in-Ok.ensures.done

pub returns-in-Err-clause-done : goal.returns-in-Err-clause-done
returns-in-Err-clause-done g c =
    let out : Outlet = outlet g.O.Sink.written g.O.Sink.faults g.O.Sink.stalls c.run.new.left_out in
    let out' : Outlet = outlet g.O.Sink.written g.O.Sink.faults g.O.Sink.stalls c.tell.new.left_out in
    done_err (g.T.Stage.serves c.args.stage.now) (g.T.Stage.place c.args.stage.now) _ _ _ _ _ _ _ _
    (sides g.I.Source.left g.I.Source.faults g.O.Sink.written g.O.Sink.faults g.O.Sink.stalls g.L.Link.left g.L.Link.written g.L.Link.faults g.L.Link.stalls c.run.new.left_in c.run.new.left_out c.run.new.right)
    _ _ out' c.in-Err.fault c.in-Err.ensures.done
    (subst (λ (n : ℕ). Wrote out out' (fault_bytes n (Err c.in-Err.fault))) (c.number.ensures ∙ c.in-Err.ensures.place) c.tell.ensures.wrote)
    c.tell.ensures.later

pub returns-in-Err-clause-status : goal.returns-in-Err-clause-status
returns-in-Err-clause-status g c = λ apart. ran_seven _ _ _ _ _ _ _ _ _ _ _ c.in-Err.fault c.in-Err.ensures.done (c.in-Err.ensures.ends apart).inside
