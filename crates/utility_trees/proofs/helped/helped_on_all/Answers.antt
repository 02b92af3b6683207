use Rattle.std.proofs.Common.{refl, sym}
use Rattle.quel_names.specs.Asking.{scope_of}
use Rattle.utility_trees.proofs.helped.helped_on_all.Goals as goal

pub returns-clause-known : goal.returns-clause-known
returns-clause-known g c = λ db ranges h. c.in_ok-tree.ensures (scope_of db c.args.user.now ranges) refl (sym (c.in_ok-dba.ensures.known db h))
