use Rattle.quel_meaning.proofs.InOrder.{table_same_rows, table_in_order}
use Rattle.quel_meaning.proofs.laws.a_table_is_the_answer_in_order.Goals as goal

pub returns : goal.returns
returns c = record { rows = table_same_rows; ascend = table_in_order }
