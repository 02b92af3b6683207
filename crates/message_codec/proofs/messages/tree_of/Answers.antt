use Rattle.message_codec.proofs.ByKind.{tree_came, tree_none}
use Rattle.message_codec.proofs.messages.tree_of.Goals as goal

pub returns-in_ok-new-in-Some : goal.returns-in_ok-new-in-Some
returns-in_ok-new-in-Some c = tree_came c.in_ok-found.field-0 c.in-Some.found c.in_ok-new-in-Some.field-0 c.args.bytes.now c.in_ok-found.ensures c.in-Some.is c.in_ok-new-in-Some.ensures

pub returns-in-None : goal.returns-in-None
returns-in-None c = tree_none c.in_ok-found.field-0 c.args.bytes.now c.in_ok-found.ensures c.in-None.is
