use Rattle.quel_meaning.proofs.Grammatical.{moves_on}
use Rattle.quel_meaning.proofs.ReadWhole.{read_next}
use Rattle.quel_meaning.proofs.session_laws.a_batch_is_read_to_its_end.Goals as goal

pub returns : goal.returns
returns c = record { next = read_next; moves = moves_on }
