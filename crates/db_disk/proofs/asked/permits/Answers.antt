use Rattle.std.proofs.Common.{refl}
use Rattle.calculus.specs.Database.{permits_on}
use Rattle.plain_base.specs.Shown.{database_of}
use Rattle.db_disk.proofs.Asking.{asked, permits_alike}
use Rattle.db_disk.proofs.asked.permits.Goals as goal

pub returns-clause-known : goal.returns-clause-known
returns-clause-known c = λ s schema.
    asked (database_of c.permits.new.self) (database_of c.in-Some.cached.plain) s c.permits.ensures.kept schema (λ ps. ps.items) (λ db. permits_on db c.args.key.now) (λ db. permits_alike db c.args.key.now) c.permits.result
    (c.permits.ensures.known _ refl)
