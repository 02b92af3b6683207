use Rattle.message_codec.proofs.ReadAgain.{again_is, no_again}
use Rattle.message_codec.proofs.values.again.Goals as goal

pub returns-in-Ok-clause-some : goal.returns-in-Ok-clause-some
returns-in-Ok-clause-some g c = again_is g.T.Spelled.codec c.args.value.now c.in-Ok.sent c.in_ok-bytes.bytes.items c.of.result c.deref.result.now c.of.ensures c.deref.ensures.value c.in-Ok.ensures.found c.in_ok-bytes.ensures c.in-Ok.ensures.only

pub returns-in-Err-NotATree-clause-none : goal.returns-in-Err-NotATree-clause-none
returns-in-Err-NotATree-clause-none g c = no_again g.T.Spelled.codec c.args.value.now c.in_ok-bytes.bytes.items c.deref.result.now c.in-Err-NotATree.field-0 _ c.deref.ensures.value c.in-Err-NotATree.field-0-is c.in_ok-bytes.ensures c.in-Err-NotATree.ensures.only
