use Rattle.std.proofs.Common.{◌≡◌, Err, rules}
use Rattle.net_core.proofs.Takings.{no_frame, told_frame, with_frame}
use Rattle.net_core.proofs.taking.take_right.Goals as goal

pub returns-in_err-frame-clause-taken : goal.returns-in_err-frame-clause-taken
returns-in_err-frame-clause-taken g c = λ taken bytes h.
    let is : c.from_residual.result ≡ Err c.in_err-frame.field-0.0 = search rules in
    rw is (no_frame (g.T.Stage.serves c.args.stage.now) _ _ taken bytes _ _ _ c.in_err-frame.field-0.0 c.next_right.new.self (c.in_err-frame.ensures.asked taken bytes h))

pub returns-in-Some-clause-taken : goal.returns-in-Some-clause-taken
returns-in-Some-clause-taken g c = λ taken bytes h.
    told_frame (g.T.Stage.serves c.args.stage.now) _ _ taken bytes _ _ c.next_right.new.self c.in_ok-frame.frame c.in-Some.status (c.in_ok-frame.ensures.asked taken bytes h) c.in-Some.ensures.known c.in-Some.ensures.status

pub returns-in-None-clause-taken : goal.returns-in-None-clause-taken
returns-in-None-clause-taken g c = λ taken bytes h.
    with_frame (g.T.Stage.serves c.args.stage.now) _ _ taken bytes _ _ _ c.args.right.now c.next_right.new.self c.in_ok-frame.frame c.take_frame.result h (c.in_ok-frame.ensures.asked taken bytes h) c.take_frame.ensures.took (λ _. c.in-None.ensures.plain)
