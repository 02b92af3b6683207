use Rattle.quel_meaning.proofs.Cutting.{only_text, first_command}
use Rattle.quel_meaning.proofs.session_laws.a_line_is_cut_at_its_first_command.Goals as goal

pub returns : goal.returns
returns c = record { piece = only_text; command = first_command }
