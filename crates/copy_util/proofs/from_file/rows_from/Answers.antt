use Rattle.std.proofs.Common.{sym, ◌∙◌}
use Rattle.copy_util.proofs.Copied.{comes_of, from_bytes, from_no_bytes, from_refused}
use Rattle.copy_util.proofs.from_file.rows_from.Goals as goal

pub file_appended-requires-clause-fits : goal.file_appended-requires-clause-fits
file_appended-requires-clause-fits g c = λ db e.
    let before = sym c.in-Ok-None.ensures.kept ∙ e in
    c.requires.fits db before (sym (sym c.in-Ok-None.field-0-is ∙ c.in-Ok-None.ensures.known db (g.B.Base.own c.args.base.now db before)))

pub returns-in-Ok-clause-known : goal.returns-in-Ok-clause-known
returns-in-Ok-clause-known g c = λ db files e f.
    from_bytes db files c.args.user.now c.args.rel.now c.args.columns.now c.args.constant.now c.in-Ok.bytes.items c.file_appended.result
    (sym c.in-Ok-None.field-0-is ∙ c.in-Ok-None.ensures.known db (g.B.Base.own c.args.base.now db e)) (c.in-Ok.ensures.known files f) (c.file_appended.ensures.known db (c.in-Ok-None.ensures.kept ∙ e))

pub returns-in-Err-fetch_file-clause-known : goal.returns-in-Err-fetch_file-clause-known
returns-in-Err-fetch_file-clause-known g c = λ db files e f.
    from_no_bytes db files c.args.user.now c.args.rel.now c.args.columns.now c.args.constant.now c.in-Err-fetch_file.fault
    (sym c.in-Ok-None.field-0-is ∙ c.in-Ok-None.ensures.known db (g.B.Base.own c.args.base.now db e)) (c.in-Err-fetch_file.ensures.known files f)

pub returns-in-Ok-Some-clause-known : goal.returns-in-Ok-Some-clause-known
returns-in-Ok-Some-clause-known g c = λ db files e f.
    from_refused db files c.args.user.now c.args.rel.now c.args.columns.now c.args.constant.now c.in-Ok-Some.cause (sym c.in-Ok-Some.field-0-is ∙ c.in-Ok-Some.ensures.known db (g.B.Base.own c.args.base.now db e))

pub returns-in-Ok-clause-comes : goal.returns-in-Ok-clause-comes
returns-in-Ok-clause-comes g c = λ db e.
    comes_of db c.args.user.now c.args.rel.now c.args.columns.now c.args.constant.now c.in-Ok.bytes.items c.file_appended.result
    (sym c.in-Ok-None.field-0-is ∙ c.in-Ok-None.ensures.known db (g.B.Base.own c.args.base.now db e)) c.in-Ok.ensures.short (c.file_appended.ensures.known db (c.in-Ok-None.ensures.kept ∙ e))
