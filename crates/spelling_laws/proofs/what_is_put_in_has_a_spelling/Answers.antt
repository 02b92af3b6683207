use Rattle.spelling_laws.proofs.Read.{put_in_spelled, grammatical_put_in}
use Rattle.spelling_laws.proofs.what_is_put_in_has_a_spelling.Goals as goal

pub returns-clause-allowed : goal.returns-clause-allowed
returns-clause-allowed c = λ db d user named ranges text from s end read tree e who. put_in_spelled db d user named ranges text from s end read tree e who

pub returns-clause-grammatical : goal.returns-clause-grammatical
returns-clause-grammatical c = λ reading lawful db d user named ranges text from s end is tree e who. grammatical_put_in reading lawful db d user named ranges text from s end is tree e who
