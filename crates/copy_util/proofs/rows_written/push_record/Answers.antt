use Rattle.copy_util.proofs.Written.{one_more_field, forms_behind}
use Rattle.copy_util.proofs.rows_written.push_record.Goals as goal

pub columns-preserved : goal.columns-preserved
columns-preserved c = record {
  forms = forms_behind c.columns.left.now c.in-Some.others.now c.in-Some.column.now c.in-Some.ensures.cases.0 c.columns.invariant.forms;
  so_far = one_more_field c.columns.left.now c.in-Some.others.now c.in-Some.column.now c.args.row.now _ c.columns.out.items c.push_field.new.out.items c.in_ok-push_field.field-0
      c.in-Some.ensures.cases.0 c.columns.invariant.so_far c.in_ok-push_field.ensures c.if-not-branch.false;
}
