use Rattle.std.proofs.Common.{◌∙◌}
use Rattle.quel_tree.specs.Relations.{columns as columns_codec}
use Rattle.stage_proc.proofs.Framed.{put_so}
use Rattle.stage_proc.proofs.sending.put_head.Goals as goal

pub returns-in-Ok : goal.returns-in-Ok
returns-in-Ok c = put_so c.put.result c.args.out.now c.put.new.self 3 c.of.result (columns_codec.write c.args.columns.now) (c.of.ensures ∙ (c.in-Ok.ensures c.requires).1) c.put.ensures.ok
