use Rattle.schema_laws.proofs.Through.{level_alike, measure_alike, reads_alike}
use Rattle.schema_laws.proofs.Known.{query_level_alike, size_alike, expanded_alike, update_expanded_alike}
use Rattle.schema_laws.proofs.sizes.levels_and_sizes_are_in_the_schema.Goals as goal

pub returns-clause-levels : goal.returns-clause-levels
returns-clause-levels c = level_alike

pub returns-clause-measures : goal.returns-clause-measures
returns-clause-measures c = measure_alike

pub returns-clause-query_levels : goal.returns-clause-query_levels
returns-clause-query_levels c = query_level_alike

pub returns-clause-sizes : goal.returns-clause-sizes
returns-clause-sizes c = size_alike

pub returns-clause-variables : goal.returns-clause-variables
returns-clause-variables c = expanded_alike

pub returns-clause-update_variables : goal.returns-clause-update_variables
returns-clause-update_variables c = update_expanded_alike

pub returns-clause-reads : goal.returns-clause-reads
returns-clause-reads c = reads_alike
