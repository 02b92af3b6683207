use Rattle.std.proofs.Common.{sym, subst}
use Rattle.quel_meaning.specs.Copying.{file_of_constant}
use Rattle.copy_util.proofs.SomeRows.{stored_spares, unstored_spares}
use Rattle.copy_util.specs.Stored.{MayBeCopied}
use Rattle.copy_util.proofs.into_file.store_rows.Goals as goal

pub returns-in-Ok-clause-spares : goal.returns-in-Ok-clause-spares
returns-in-Ok-clause-spares g c = λ files e.
    stored_spares c.args.user.now c.args.rel.now c.args.columns.now c.deref.result.now (file_of_constant c.args.constant.now) files (g.H.Shelf.files c.store_file.new.shelf) c.store_file.result (subst (MayBeCopied c.args.user.now c.args.rel.now c.args.columns.now) (sym c.deref.ensures.value) c.in-Ok.ensures.some) (c.store_file.ensures.known files e)

pub returns-clause-spares : goal.returns-clause-spares
returns-clause-spares g c = λ files e.
    unstored_spares c.args.user.now c.args.rel.now c.args.columns.now (file_of_constant c.args.constant.now) files (g.H.Shelf.files c.args.shelf.now) c.in-Err.refused c.in-Err.ensures.cause.shelf e
