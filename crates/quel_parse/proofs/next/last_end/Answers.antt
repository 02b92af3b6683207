use Rattle.std.proofs.Common.{◌-◌, length, arith}
use Rattle.quel_parse.proofs.FirstTokens.{last_at}
use Rattle.quel_parse.proofs.next.last_end.Goals as goal

pub returns-in-len1-up : goal.returns-in-len1-up
returns-in-len1-up c = last_at 0 (length c.args.spans.now - 1) _ c.args.spans.now (omega (arith, c.in-len1-up.len_at_least))
