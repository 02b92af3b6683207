use Rattle.quel_meaning.proofs.LeftOpen.{only_the_script, next_line, end_of_file}
use Rattle.quel_meaning.proofs.step_laws.lines_come_from_the_innermost_file.Goals as goal

pub returns : goal.returns
returns c = record { script = only_the_script; line = next_line; end = end_of_file }
