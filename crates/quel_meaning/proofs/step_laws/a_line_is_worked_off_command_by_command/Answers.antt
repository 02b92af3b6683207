use Rattle.quel_meaning.proofs.LeftOpen.{only_piece, plain_command, file_command}
use Rattle.quel_meaning.proofs.step_laws.a_line_is_worked_off_command_by_command.Goals as goal

pub returns : goal.returns
returns c = record { piece = only_piece; command = plain_command; file = file_command }
