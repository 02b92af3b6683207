use Rattle.std.proofs.Common.{ap, refl, length}
use Rattle.calculus.specs.Database.{entries}
use Rattle.plain_base.specs.Shown.{database_of}
use Rattle.schema_laws.proofs.Alike.{entries_alike}
use Rattle.db_disk.proofs.Asking.{asked}
use Rattle.db_disk.proofs.asked.count.Goals as goal

pub returns-clause-known : goal.returns-clause-known
returns-clause-known c = λ s schema.
    asked (database_of c.count.new.self) (database_of c.in-Some.cached.plain) s c.count.ensures.kept schema (λ n. n) (λ db. length (entries db)) (λ db. ap length (entries_alike db)) c.count.result
    (c.count.ensures.known _ refl)
