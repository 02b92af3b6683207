-- Trees that are sent as one message: there are some.
use Rattle.std.specs.Prelude.{◌≤◌}
use Rattle.std.proofs.Common.{arith}
use Rattle.quel_tree.specs.Message.{most_tree_levels}

-- a qualification may have one level
pub one_of_them : 1 ≤ most_tree_levels
one_of_them = omega arith

-- a query may have two
pub two_of_them : 2 ≤ most_tree_levels
two_of_them = omega arith
