use Rattle.quel_meaning.proofs.LeftOfBatch.{nothing_left, statement_next, refusal_next}
use Rattle.quel_meaning.proofs.step_laws.a_batch_is_worked_off_statement_by_statement.Goals as goal

pub returns : goal.returns
returns c = record { nothing = nothing_left; statement = statement_next; syntax = refusal_next }
