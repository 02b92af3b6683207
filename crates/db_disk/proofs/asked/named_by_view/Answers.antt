use Rattle.std.proofs.Common.{refl}
use Rattle.base_trait.specs.Known.{is_named_by_view}
use Rattle.plain_base.specs.Shown.{database_of}
use Rattle.db_disk.proofs.Asking.{asked, named_alike}
use Rattle.db_disk.proofs.asked.named_by_view.Goals as goal

pub returns-clause-known : goal.returns-clause-known
returns-clause-known c = λ s schema.
    asked (database_of c.named_by_view.new.self) (database_of c.in-Some.cached.plain) s c.named_by_view.ensures.kept schema (λ b. b) (λ db. is_named_by_view db c.args.but.now c.args.key.now) (λ db. named_alike db c.args.but.now c.args.key.now) c.named_by_view.result
    (c.named_by_view.ensures.known _ refl)
