use Rattle.tree_laws.proofs.Shown.{expansion_denotes}
use Rattle.tree_laws.proofs.expansions.an_expansion_denotes_its_rows.Goals as goal

pub returns : goal.returns
returns c = expansion_denotes
