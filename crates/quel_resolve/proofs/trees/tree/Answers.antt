use Rattle.std.proofs.Common.{sym, ◌∙◌}
use Rattle.quel_names.specs.Asking.{scope_of}
use Rattle.quel_resolve.proofs.Changes.{range_asks_nothing, range_passes}
use Rattle.quel_resolve.proofs.trees.tree.Goals as goal

pub returns-then-is_range-clause-known : goal.returns-then-is_range-clause-known
returns-then-is_range-clause-known g c = λ db h names w. (
  c.nothing.ensures ∙ sym (range_asks_nothing (scope_of db c.args.user.now c.args.ranges.now) c.args.s.now (sym c.is_range.ensures ∙ c.if-is_range.true)),
  range_passes (scope_of db c.args.user.now c.args.ranges.now) c.args.s.now (sym c.is_range.ensures ∙ c.if-is_range.true),
)
