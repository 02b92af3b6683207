use Rattle.std.proofs.Common.{◌≡◌, Err, rules}
use Rattle.net_core.specs.declared.loop_fault.LoopFault.TheVariants as fault
use Rattle.net_core.proofs.Takings.{no_frame, with_frame}
use Rattle.net_core.proofs.taking.take_left.Goals as goal

pub returns-in_err-frame-clause-taken : goal.returns-in_err-frame-clause-taken
returns-in_err-frame-clause-taken g c = λ taken bytes h.
    let is : c.from_residual.result ≡ Err c.in_err-frame.field-0.0 = search rules in
    rw is (no_frame (g.T.Stage.serves c.args.stage.now) _ _ taken bytes _ _ _ c.in_err-frame.field-0.0 c.next_left.new.self (c.in_err-frame.ensures.asked taken bytes h))

pub returns-clause-taken : goal.returns-clause-taken
returns-clause-taken g c = λ taken bytes h.
    with_frame (g.T.Stage.serves c.args.stage.now) _ _ taken bytes _ _ _ c.args.left.now c.next_left.new.self c.in_ok-frame.frame c.take_frame.result h (c.in_ok-frame.ensures.asked taken bytes h) c.take_frame.ensures.took (λ (e : fault.LeftRead ≡ fault.Right). absurd (cc))
