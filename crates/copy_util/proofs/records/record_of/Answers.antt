use Rattle.copy_util.proofs.RecordRead.{record_was_bad, record_was_read}
use Rattle.copy_util.proofs.records.record_of.Goals as goal

pub returns-in-Ok-Some : goal.returns-in-Ok-Some
returns-in-Ok-Some c =
    record_was_read c.args.kinds.now c.args.columns.now c.args.bytes.now c.in_ok-row.row.items c.put_record.new.row.items c.of.result c.in-Ok-Some.rest.now
    c.in_ok-row.ensures c.of.ensures (rw c.in-Ok-Some.field-0-is at c.in-Ok-Some.ensures)

pub returns-in-Ok-None : goal.returns-in-Ok-None
returns-in-Ok-None c =
    record_was_bad c.args.kinds.now c.args.columns.now c.args.bytes.now c.in_ok-row.row.items c.in_ok-row.ensures (rw c.in-Ok-None.field-0-is at c.in-Ok-None.ensures)
