use Rattle.quel_meaning.proofs.RecordsBack.{file_back}
use Rattle.quel_meaning.proofs.WholeRows.{whole_file_back}
use Rattle.quel_meaning.proofs.copy_laws.a_copy_is_read_back.Goals as goal

pub returns : goal.returns
returns c = record { columns = file_back; rows = whole_file_back }
