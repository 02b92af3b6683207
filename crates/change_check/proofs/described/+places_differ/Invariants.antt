use Rattle.std.proofs.Common.{length}
use Rattle.change_check.proofs.described.+places_differ.Given as goal

abbrev pub decreases-places_differ : goal.decreases-places_differ
decreases-places_differ l = length l.keys.now
