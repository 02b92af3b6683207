use Rattle.std.proofs.Common.{refl}
use Rattle.plain_base.specs.Shown.{database_of}
use Rattle.catalog_read.proofs.Starts.{fit_is}
use Rattle.catalog_read.proofs.applying.is_fit.Goals as goal

pub returns-in-Ok-clause-known : goal.returns-in-Ok-clause-known
returns-in-Ok-clause-known c =
    fit_is (database_of c.args.plain.now) c.args.change.now c.in-Ok.fit c.args.plain.now.is (c.in-Ok.ensures.known (database_of c.args.plain.now) refl)
