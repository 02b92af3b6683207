use Rattle.std.proofs.Common.{sym, ap, ◌∙◌}
use Rattle.copy_util.specs.Reading.{up_to_bad}
use Rattle.copy_util.proofs.Copied.{into_bad, into_made, into_refused}
use Rattle.copy_util.proofs.SomeRows.{may_be_copied}
use Rattle.copy_util.proofs.into_file.put_file.Goals as goal

pub returns-in-Ok-None-put_rows-clause-known : goal.returns-in-Ok-None-put_rows-clause-known
returns-in-Ok-None-put_rows-clause-known g c = λ db e.
    into_made db c.args.user.now c.args.rel.now c.args.columns.now c.put_rows.new.out.items (sym c.in-Ok-None.field-0-is ∙ c.in-Ok-None.ensures.known db (g.B.Base.own c.args.base.now db e))
    (c.in-Ok-None-put_rows.ensures.known db (c.in-Ok-None.ensures.kept ∙ e) ∙ ap (up_to_bad c.put_rows.new.out.items) c.in-Ok-None-put_rows.field-0-is)

pub returns-in-Ok-Some-put_rows-clause-known : goal.returns-in-Ok-Some-put_rows-clause-known
returns-in-Ok-Some-put_rows-clause-known g c = λ db e.
    into_bad db c.args.user.now c.args.rel.now c.args.columns.now c.in-Ok-Some-put_rows.row (sym c.in-Ok-None.field-0-is ∙ c.in-Ok-None.ensures.known db (g.B.Base.own c.args.base.now db e))
    (c.in-Ok-Some-put_rows.ensures.known db (c.in-Ok-None.ensures.kept ∙ e) ∙ ap (up_to_bad c.put_rows.new.out.items) c.in-Ok-Some-put_rows.field-0-is)

pub returns-in-Ok-Some-clause-known : goal.returns-in-Ok-Some-clause-known
returns-in-Ok-Some-clause-known g c = λ db e.
    into_refused db c.args.user.now c.args.rel.now c.args.columns.now c.in-Ok-Some.cause (sym c.in-Ok-Some.field-0-is ∙ c.in-Ok-Some.ensures.known db (g.B.Base.own c.args.base.now db e))

pub returns-in-Ok-None-put_rows-clause-some : goal.returns-in-Ok-None-put_rows-clause-some
returns-in-Ok-None-put_rows-clause-some g c =
    may_be_copied c.args.user.now c.args.rel.now c.args.columns.now c.in-Ok-None-put_rows.ensures.some.0 c.put_rows.new.out.items (c.in-Ok-None.ensures.owner c.in-Ok-None.field-0-is)
    (c.in-Ok-None-put_rows.ensures.some.1 ∙ ap (up_to_bad c.put_rows.new.out.items) c.in-Ok-None-put_rows.field-0-is)
