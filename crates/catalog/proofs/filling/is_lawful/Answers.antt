use Rattle.std.proofs.Common.{refl}
use Rattle.plain_base.specs.Shown.{database_of}
use Rattle.catalog.proofs.filling.is_lawful.Goals as goal

pub returns-in-Ok-clause-lawful : goal.returns-in-Ok-clause-lawful
returns-in-Ok-clause-lawful c = c.in-Ok.ensures.known (database_of c.args.plain.now) refl
