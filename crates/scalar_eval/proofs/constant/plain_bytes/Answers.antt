use Rattle.std.proofs.Common.{rules}
use Rattle.scalar_eval.proofs.Texts.{read_at_end}
use Rattle.scalar_eval.proofs.constant.plain_bytes.Goals as goal

pub returns : goal.returns
returns c = read_at_end c.bytes.bytes.items c.bytes.rest.now _ c.bytes.invariant (search rules)
