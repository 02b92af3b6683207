use Rattle.std.proofs.Common.{arith}
use Rattle.std.proofs.lemmas.Grind.{common_steps}
use Rattle.net_core.proofs.Readers.{next_lies}
use Rattle.net_core.proofs.incoming.Incoming.take_ready.Goals as goal

pub overflow_add-self-in-Some : goal.overflow_add-self-in-Some
overflow_add-self-in-Some c =
    let h = c.requires in
    let k = next_lies h.0 h.1 c.args.self.now c.in-Some.frame c.next.new.self h.2 c.in-Some.ensures.given in
    grind (arith, common_steps, k)
