use Rattle.quel_tree.specs.Values.{row}
use Rattle.quel_tree.proofs.values.RowTreeSpelling.write.Goals as goal

pub returns : goal.returns
unfolding row
returns c = rw (← c.values.ensures) c.write_many16.ensures
