use Rattle.std.proofs.Common.{◌∙◌}
use Rattle.quel_terms.proofs.Looked.{looked}
use Rattle.quel_terms.proofs.table.look_up.Goals as goal

pub returns : goal.returns
returns g c = c.beside.ensures ∙ looked c.args.table.now c.args.word.now
