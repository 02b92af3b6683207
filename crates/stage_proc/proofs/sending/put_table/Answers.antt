use Rattle.stage_proc.proofs.Framed.{rows_of_table, table_put}
use Rattle.stage_proc.proofs.sending.put_table.Goals as goal

pub put_rows-requires : goal.put_rows-requires
put_rows-requires c = rows_of_table c.args.table c.replace-rows.result c.requires c.replace-rows.ensures.value

pub returns-in-Ok : goal.returns-in-Ok
returns-in-Ok c = table_put c.put_rows.result c.args.table c.replace-rows.result c.args.out.now c.put_head-head.new.out c.put_rows.new.out c.replace-rows.ensures.value c.in-Ok.ensures c.put_rows.ensures

pub put_head-head-requires : goal.put_head-head-requires
put_head-head-requires c = c.requires.head
