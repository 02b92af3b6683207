use Rattle.ingres_top.proofs.Tried.{unbegun}
use Rattle.ingres_top.proofs.trying.run_try.Goals as goal

pub returns-in-Err : goal.returns-in-Err
returns-in-Err g c = unbegun _ _
