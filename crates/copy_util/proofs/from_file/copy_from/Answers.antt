use Rattle.std.proofs.Common.{sym, subst}
use Rattle.copy_util.specs.Reading.{WouldBeReadable}
use Rattle.copy_util.proofs.Fitting.{copy_lawful, copy_known, fit_readable}
use Rattle.copy_util.proofs.from_file.copy_from.Goals as goal

pub rows_from-requires : goal.rows_from-requires
rows_from-requires g c = record {
  fits = λ db e.
      subst (WouldBeReadable db c.args.user.now c.in-Copy.rel) (sym c.items.ensures)
      (fit_readable db c.args.user.now c.args.u.now c.in-Copy.rel c.in-Copy.columns c.in-Copy.from c.in-Copy.file (g.B.Base.lawful c.args.base.now db (g.B.Base.own c.args.base.now db e)) c.in-Copy.is (c.requires.fits db e));
}

pub returns-clause-known : goal.returns-clause-known
returns-clause-known g c = λ db files e f k.
    copy_known db files c.args.user.now c.args.u.now c.in-Copy.rel c.in-Copy.columns c.items.result.now c.in-Copy.from c.in-Copy.file c.bytes.result.now c.rows_from.result
    (g.B.Base.lawful c.args.base.now db (g.B.Base.own c.args.base.now db e)) c.in-Copy.is c.items.ensures c.bytes.ensures.bytes (c.requires.fits db e) (c.rows_from.ensures.known db files e f) k

pub returns-clause-lawful : goal.returns-clause-lawful
returns-clause-lawful g c = λ db e.
    copy_lawful db c.args.user.now c.args.u.now c.in-Copy.rel c.in-Copy.columns c.items.result.now c.in-Copy.from c.in-Copy.file c.bytes.result.now c.rows_from.result
    (g.B.Base.lawful c.args.base.now db (g.B.Base.own c.args.base.now db e)) c.in-Copy.is c.items.ensures c.bytes.ensures.bytes (c.requires.fits db e) c.requires.copies (c.rows_from.ensures.comes db e)
