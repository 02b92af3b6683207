use Rattle.std.proofs.Common.{refl}
use Rattle.message_codec.proofs.ByKind.{row_came, row_none}
use Rattle.message_codec.proofs.messages.row_of.Goals as goal

pub returns-in-Some : goal.returns-in-Some
returns-in-Some c = row_came c.in_ok-found.field-0 c.in-Some.found c.in-Some.found c.args.bytes.now c.in_ok-found.ensures c.in-Some.is refl

pub returns-in-None : goal.returns-in-None
returns-in-None c = row_none c.in_ok-found.field-0 c.args.bytes.now c.in_ok-found.ensures c.in-None.is
