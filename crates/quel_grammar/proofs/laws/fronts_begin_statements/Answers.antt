use Rattle.quel_grammar.proofs.OneReading.{begins_front}
use Rattle.quel_grammar.proofs.laws.fronts_begin_statements.Goals as goal

pub returns : goal.returns
returns c = record { of_a_statement = λ front more s p. record { more = more; statement = s; is_one = p }; of_a_front = begins_front }
