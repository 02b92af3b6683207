use Rattle.stage_parse.proofs.Steps.{refusal_kind, tree_kind}
use Rattle.stage_parse.proofs.following.give_judged.Goals as goal

pub put-requires : goal.put-requires
put-requires g c = refusal_kind c.args.line c.in-Refused.message c.args.judged c.in-Refused.is c.requires.shaped

pub put-requires-in-Asks : goal.put-requires-in-Asks
put-requires-in-Asks g c = tree_kind c.args.line c.in-Asks.message c.args.judged c.in-Asks.is c.requires.shaped
