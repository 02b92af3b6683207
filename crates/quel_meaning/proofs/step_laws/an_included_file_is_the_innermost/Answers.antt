use Rattle.quel_meaning.proofs.LeftOpen.{file_first, too_deep}
use Rattle.quel_meaning.proofs.step_laws.an_included_file_is_the_innermost.Goals as goal

pub returns : goal.returns
returns c = record { opened = file_first; too_deep = too_deep }
