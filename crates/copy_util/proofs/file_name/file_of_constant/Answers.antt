use Rattle.std.proofs.Common.{rules}
use Rattle.scalar_eval.proofs.Texts.{read_at_end}
use Rattle.copy_util.proofs.file_name.file_of_constant.Goals as goal

pub returns : goal.returns
returns c = read_at_end c.bytes.name.items c.bytes.rest.now _ c.bytes.invariant (search rules)
