use Rattle.std.proofs.Common.{refl}
use Rattle.plain_base.specs.Shown.{database_of}
use Rattle.db_disk.proofs.Asking.{asked, dba_alike}
use Rattle.db_disk.proofs.asked.dba.Goals as goal

pub returns-clause-known : goal.returns-clause-known
returns-clause-known c = λ s schema.
    asked (database_of c.dba.new.self) (database_of c.in-Some.cached.plain) s c.dba.ensures.kept schema (λ name. name) (λ db. db.dba) (dba_alike) c.dba.result
    (c.dba.ensures.known _ refl)
