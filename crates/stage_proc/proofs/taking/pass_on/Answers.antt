use Rattle.stage_proc.proofs.Taken.{is_sent}
use Rattle.stage_proc.proofs.taking.pass_on.Goals as goal

pub put-requires : goal.put-requires
put-requires c = is_sent c.args.got.now c.args.frame c.in-Ok.message.kind c.requires c.in-Ok.ensures.kind
