use Rattle.quel_meaning.proofs.Declared.{stored_itself, stored_others}
use Rattle.quel_meaning.proofs.laws.a_shelf_keeps_files.Goals as goal

pub returns : goal.returns
returns c = record { itself = stored_itself; others = stored_others }
