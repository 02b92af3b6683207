use Rattle.quel_tree.proofs.ChangeLevels.{levels_of_permit, levels_of_rule, levels_of_change}
use Rattle.quel_tree.proofs.TreeLevels.{levels_of_term, levels_of_qual, levels_of_query}
use Rattle.quel_tree.proofs.laws.levels_are_those_of_the_tree.Goals as goal

pub returns-clause-term : goal.returns-clause-term
returns-clause-term c = levels_of_term

pub returns-clause-qual : goal.returns-clause-qual
returns-clause-qual c = levels_of_qual

pub returns-clause-query : goal.returns-clause-query
returns-clause-query c = levels_of_query

pub returns-clause-permit : goal.returns-clause-permit
returns-clause-permit c = levels_of_permit

pub returns-clause-rule : goal.returns-clause-rule
returns-clause-rule c = levels_of_rule

pub returns-clause-change : goal.returns-clause-change
returns-clause-change c = levels_of_change
