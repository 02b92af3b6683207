use Rattle.std.proofs.Common.{◌∙◌}
use Rattle.quel_tree.specs.Values.{row as row_codec}
use Rattle.stage_proc.proofs.Framed.{put_so}
use Rattle.stage_proc.proofs.sending.put_row.Goals as goal

pub returns-in-Ok : goal.returns-in-Ok
returns-in-Ok c = put_so c.put.result c.args.out.now c.put.new.self 4 c.of.result (row_codec.write c.args.row.now) (c.of.ensures ∙ (c.in-Ok.ensures c.requires).1) c.put.ensures.ok
