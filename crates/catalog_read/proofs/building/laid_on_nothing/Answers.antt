use Rattle.std.proofs.Common.{sym, subst, []}
use Rattle.std.proofs.lemmas.Option.{same_Some}
use Rattle.plain_base.specs.Shown.{database_of}
use Rattle.catalog_read.specs.Applying.{IsLeft}
use Rattle.catalog_read.proofs.building.laid_on_nothing.Goals as goal

pub returns-in-Ok-true-clause-built : goal.returns-in-Ok-true-clause-built
returns-in-Ok-true-clause-built c plain is owner parts left =
    subst (λ plain. IsLeft owner [] (database_of plain) parts) (same_Some c.apply_all.new.plain plain is)
    (c.in-Ok-true.ensures.built c.in-Ok-true.field-0-test owner parts (subst (λ db. IsLeft owner c.args.changes.items db parts) (sym c.new-plain.ensures) left))
