use Rattle.std.proofs.Common.{refl}
use Rattle.quel_tree.specs.Requests.{update}
use Rattle.quel_tree.proofs.requests.UpdateTreeSpelling.read.Goals as goal

pub returns : goal.returns
unfolding update
returns c = rw c.in_ok-op.ensures refl
