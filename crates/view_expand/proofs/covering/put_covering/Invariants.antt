use Rattle.std.proofs.Common.{◌≡◌, ◌++◌, take}
use Rattle.calculus.specs.Who.{asker_of}
use Rattle.view_expand.specs.Asking.{right_of}
use Rattle.view_expand.specs.Covering.{covering_conditions}
use Rattle.view_expand.proofs.covering.put_covering.Given as goal

abbrev pub invariant-loop-permit : goal.invariant-loop-permit
invariant-loop-permit l = l.made.items ≡ l.fn.made.items ++ covering_conditions (take l.permit-index l.permits) (asker_of l.user) (right_of l.right) l.attrs
