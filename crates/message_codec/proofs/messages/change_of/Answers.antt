use Rattle.message_codec.proofs.ByKind.{change_came, change_none}
use Rattle.message_codec.proofs.messages.change_of.Goals as goal

pub returns-in_ok-new-in-Some : goal.returns-in_ok-new-in-Some
returns-in_ok-new-in-Some c = change_came c.in_ok-found.field-0 c.in-Some.found c.in_ok-new-in-Some.field-0 c.args.bytes.now c.in_ok-found.ensures c.in-Some.is c.in_ok-new-in-Some.ensures

pub returns-in-None : goal.returns-in-None
returns-in-None c = change_none c.in_ok-found.field-0 c.args.bytes.now c.in_ok-found.ensures c.in-None.is
