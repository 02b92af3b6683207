use Rattle.std.proofs.Common.{length}
use Rattle.change_check.proofs.views.+attrs_are_targets.Given as goal

abbrev pub decreases-attrs_are_targets : goal.decreases-attrs_are_targets
decreases-attrs_are_targets l = length l.attrs.now
