use Rattle.quel_meaning.proofs.LineLaws.{joined_again, line_first, line_last}
use Rattle.quel_meaning.proofs.session_laws.lines_are_the_script.Goals as goal

pub returns : goal.returns
returns c = record { together = joined_again; first = line_first; last = line_last }
