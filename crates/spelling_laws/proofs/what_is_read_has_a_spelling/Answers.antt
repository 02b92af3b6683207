use Rattle.spelling_laws.proofs.Read.{read_spelled, grammatical_spelled}
use Rattle.spelling_laws.proofs.what_is_read_has_a_spelling.Goals as goal

pub returns-clause-allowed : goal.returns-clause-allowed
returns-clause-allowed c = λ db d user named ranges text from s end read tree e. read_spelled db d user named ranges text from s end read tree e

pub returns-clause-grammatical : goal.returns-clause-grammatical
returns-clause-grammatical c = λ reading lawful db d user named ranges text from s end is tree e. grammatical_spelled reading lawful db d user named ranges text from s end is tree e
