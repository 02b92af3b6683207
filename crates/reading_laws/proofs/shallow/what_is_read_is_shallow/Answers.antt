use Rattle.reading_laws.proofs.ShallowStatements.{statement_few, read_shallow, grammatical_shallow, computed_shallow}
use Rattle.reading_laws.proofs.shallow.what_is_read_is_shallow.Goals as goal

pub returns-clause-written : goal.returns-clause-written
returns-clause-written c = λ ts s p. statement_few p

pub returns-clause-allowed : goal.returns-clause-allowed
returns-clause-allowed c = λ text from s end read. read_shallow text from s end read

pub returns-clause-computed : goal.returns-clause-computed
returns-clause-computed c = λ text from s end e. computed_shallow text from s end e

pub returns-clause-grammatical : goal.returns-clause-grammatical
returns-clause-grammatical c = λ reading lawful text from s end e. grammatical_shallow reading lawful text from s end e
