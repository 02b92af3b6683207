use Rattle.std.proofs.Common.{sym, ap, ◌∙◌}
use Rattle.quel_meaning.specs.Copying.{file_of_rows}
use Rattle.copy_util.proofs.Known.{numbered_refusal}
use Rattle.copy_util.proofs.SomeRows.{some_rows}
use Rattle.copy_util.proofs.into_file.put_rows.Goals as goal

pub returns-in_ok-bad-in-Ok-clause-cause : goal.returns-in_ok-bad-in-Ok-clause-cause
returns-in_ok-bad-in-Ok-clause-cause g c = record {
  later = c.in-Ok.ensures.cause.later;
  caused = numbered_refusal (g.B.Base.database c.args.base.now) c.args.rel.now c.args.columns.now _ c.in_ok-bad-in-Ok.field-0 _ _ c.row_number.result c.in-Ok.ensures.cause.caused
      (λ db e. g.B.Base.lawful c.args.base.now db (g.B.Base.own c.args.base.now db e))
      (λ db e. ap (file_of_rows c.args.columns.now) (sym (c.rows.ensures.rows ∙ c.in-Ok.ensures.known db e)) ∙ c.in_ok-bad-in-Ok.ensures)
      c.row_number.ensures.large;
}

pub returns-in_ok-bad-in-Ok-clause-some : goal.returns-in_ok-bad-in-Ok-clause-some
returns-in_ok-bad-in-Ok-clause-some g c = some_rows c.args.columns.now c.rows.result.now c.push_rows-bad.new.out.items c.in_ok-bad-in-Ok.field-0 c.row_number.result c.in_ok-bad-in-Ok.ensures c.row_number.ensures.same
