use Rattle.quel_meaning.proofs.Taken.{last_number, no_number}
use Rattle.quel_meaning.proofs.session_laws.all_output_ends_the_last_reply.Goals as goal

pub returns : goal.returns
returns c = record { last = last_number; none = no_number }
