use Rattle.std.proofs.Common.{refl}
use Rattle.calculus.specs.Database.{rules_on}
use Rattle.plain_base.specs.Shown.{database_of}
use Rattle.db_disk.proofs.Asking.{asked, rules_alike}
use Rattle.db_disk.proofs.asked.rules.Goals as goal

pub returns-clause-known : goal.returns-clause-known
returns-clause-known c = λ s schema.
    asked (database_of c.rules.new.self) (database_of c.in-Some.cached.plain) s c.rules.ensures.kept schema (λ rs. rs.items) (λ db. rules_on db c.args.key.now) (λ db. rules_alike db c.args.key.now) c.rules.result
    (c.rules.ensures.known _ refl)
