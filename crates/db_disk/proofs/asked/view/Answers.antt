use Rattle.std.proofs.Common.{refl}
use Rattle.base_trait.specs.Known.{query_at}
use Rattle.plain_base.specs.Shown.{database_of}
use Rattle.db_disk.proofs.Asking.{asked, view_alike}
use Rattle.db_disk.proofs.asked.view.Goals as goal

pub returns-clause-known : goal.returns-clause-known
returns-clause-known c = λ s schema.
    asked (database_of c.view.new.self) (database_of c.in-Some.cached.plain) s c.view.ensures.kept schema (λ q. q) (λ db. query_at db c.args.key.now) (λ db. view_alike db c.args.key.now) c.view.result
    (c.view.ensures.known _ refl)
