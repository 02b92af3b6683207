use Rattle.copy_util.proofs.Written.{none_written}
use Rattle.copy_util.proofs.rows_written.push_rows.Goals as goal

pub loop-i-init : goal.loop-i-init
loop-i-init c = none_written c.args.columns.now c.args.rows.now c.args.out.now.items c.requires.empty
