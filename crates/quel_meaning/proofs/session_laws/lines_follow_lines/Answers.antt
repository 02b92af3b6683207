use Rattle.quel_meaning.proofs.Steps.{lines_append, printed_append, still_append}
use Rattle.quel_meaning.proofs.session_laws.lines_follow_lines.Goals as goal

pub returns : goal.returns
returns c = record { steps = lines_append; events = printed_append; bytes = still_append }
