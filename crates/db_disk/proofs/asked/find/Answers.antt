use Rattle.std.proofs.Common.{refl}
use Rattle.calculus.specs.Finding.{found}
use Rattle.plain_base.specs.Shown.{database_of}
use Rattle.schema_laws.proofs.Alike.{found_alike}
use Rattle.db_disk.proofs.Asking.{asked}
use Rattle.db_disk.proofs.asked.find.Goals as goal

pub returns-clause-known : goal.returns-clause-known
returns-clause-known c = λ s schema.
    asked (database_of c.find.new.self) (database_of c.in-Some.cached.plain) s c.find.ensures.kept schema (λ info. info) (λ db. found db c.args.user.now c.args.name.now) (λ db. found_alike db c.args.user.now c.args.name.now) c.find.result
    (c.find.ensures.known _ refl)
