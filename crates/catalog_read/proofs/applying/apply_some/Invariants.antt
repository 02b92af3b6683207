use Rattle.std.proofs.Common.{◌≡◌}
use Rattle.plain_base.specs.Shown.{database_of}
use Rattle.catalog_read.specs.Applying.{round, behind}
use Rattle.catalog_read.proofs.applying.apply_some.Given as goal

abbrev pub invariant-round : goal.invariant-round
invariant-round l = behind l.left.items (round (database_of l.plain) l.change-iterator.rest.items) ≡ round (database_of l.fn.plain) l.fn.changes.items
