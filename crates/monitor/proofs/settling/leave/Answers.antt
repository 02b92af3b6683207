use Rattle.std.proofs.Common.{[], refl}
use Rattle.monitor.proofs.Erring.{on_ok}
use Rattle.monitor.proofs.Sent.{frames_put}
use Rattle.monitor.proofs.settling.leave.Goals as goal

pub put-requires : goal.put-requires
put-requires c = rw c.quit_message.ensures.kind refl

pub returns : goal.returns
returns c = on_ok c.put.result (λ h. frames_put c.args.out.now c.put.new.self c.quit_message.result.kind 10 c.quit_message.result.bytes [] c.requires c.quit_message.ensures.kind c.quit_message.ensures.bytes h) c.put.ensures.ok
