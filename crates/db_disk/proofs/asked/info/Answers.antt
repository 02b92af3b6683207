use Rattle.std.proofs.Common.{refl}
use Rattle.base_trait.specs.Known.{known_at}
use Rattle.plain_base.specs.Shown.{database_of}
use Rattle.db_disk.proofs.Asking.{asked, known_alike}
use Rattle.db_disk.proofs.asked.info.Goals as goal

pub returns-clause-known : goal.returns-clause-known
returns-clause-known c = λ s schema.
    asked (database_of c.info.new.self) (database_of c.in-Some.cached.plain) s c.info.ensures.kept schema (λ info. info) (λ db. known_at db c.args.key.now) (λ db. known_alike db c.args.key.now) c.info.result
    (c.info.ensures.known _ refl)
