use Rattle.ovqp.proofs.Plain.{same_value, same_truth, same_rows, same_lacks, same_answer, same_query_lacks}
use Rattle.decompose.proofs.laws.no_aggregates_need_no_tables.Goals as goal

pub returns-clause-values : goal.returns-clause-values
returns-clause-values c = same_value

pub returns-clause-truths : goal.returns-clause-truths
returns-clause-truths c = same_truth

pub returns-clause-rows : goal.returns-clause-rows
returns-clause-rows c = same_rows

pub returns-clause-lacking : goal.returns-clause-lacking
returns-clause-lacking c = same_lacks

pub returns-clause-answers : goal.returns-clause-answers
returns-clause-answers c = same_answer

pub returns-clause-lacks : goal.returns-clause-lacks
returns-clause-lacks c = same_query_lacks
