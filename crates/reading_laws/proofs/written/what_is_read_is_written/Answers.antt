use Rattle.reading_laws.proofs.Statements.{read_written, grammatical_written, computed_written}
use Rattle.reading_laws.proofs.written.what_is_read_is_written.Goals as goal

pub returns-clause-allowed : goal.returns-clause-allowed
returns-clause-allowed c = λ text from s end read. read_written text from s end read

pub returns-clause-computed : goal.returns-clause-computed
returns-clause-computed c = λ text from s end e. computed_written text from s end e

pub returns-clause-grammatical : goal.returns-clause-grammatical
returns-clause-grammatical c = λ reading lawful text from s end e. grammatical_written reading lawful text from s end e
