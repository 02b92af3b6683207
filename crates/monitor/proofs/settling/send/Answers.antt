use Rattle.std.proofs.Common.{◌≡◌, ◌∙◌, rules, refl}
use Rattle.monitor.proofs.Erring.{on_ok}
use Rattle.monitor.proofs.Sent.{frames_put}
use Rattle.monitor.proofs.settling.send.Goals as goal

pub put-requires : goal.put-requires
put-requires c = rw c.text_message.ensures.kind refl

pub returns : goal.returns
returns c =
    let same : c.of.result ≡ c.args.text.now = search rules in
    on_ok c.put.result (λ h. frames_put c.args.out.now c.put.new.self c.text_message.result.kind 1 c.text_message.result.bytes c.args.text.now c.requires c.text_message.ensures.kind (c.text_message.ensures.bytes ∙ same) h) c.put.ensures.ok
