use Rattle.message_codec.proofs.Queue.{put_any, put_ok}
use Rattle.message_codec.proofs.outgoing.Outgoing.put.Goals as goal

pub invariant_of-self : goal.invariant_of-self
invariant_of-self c =
    put_any c.self.inside.begun c.self.inside.left c.self.inside.later.items c.push_behind.new.items.items c.args.message c.push_behind.result c.push_behind.ensures.behind c.push_behind.ensures.same c.requires c.self.invariant

pub returns-clause-ok : goal.returns-clause-ok
returns-clause-ok c = put_ok c.self.inside.begun c.self.inside.later.items c.push_behind.new.items.items c.args.self.now c.args.message c.push_behind.result c.self.view_is c.push_behind.ensures.behind
