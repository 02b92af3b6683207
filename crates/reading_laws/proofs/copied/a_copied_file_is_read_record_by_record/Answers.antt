use Rattle.reading_laws.proofs.FilesRead.{nothing, record_first, ended_last, none_bad, file_of_rows}
use Rattle.reading_laws.proofs.copied.a_copied_file_is_read_record_by_record.Goals as goal

pub returns : goal.returns
returns c = record { nothing_left = nothing; record_in_front = record_first; last_record = ended_last; bad_record = none_bad; whole_file = file_of_rows }
