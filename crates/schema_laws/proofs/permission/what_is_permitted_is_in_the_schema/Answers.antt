use Rattle.schema_laws.proofs.Through.{permitted_alike, readable_alike}
use Rattle.schema_laws.proofs.Known.{query_permitted_alike, update_permitted_alike}
use Rattle.schema_laws.proofs.permission.what_is_permitted_is_in_the_schema.Goals as goal

pub returns-clause-rights : goal.returns-clause-rights
returns-clause-rights c = permitted_alike

pub returns-clause-reading : goal.returns-clause-reading
returns-clause-reading c = readable_alike

pub returns-clause-queries : goal.returns-clause-queries
returns-clause-queries c = query_permitted_alike

pub returns-clause-updates : goal.returns-clause-updates
returns-clause-updates c = update_permitted_alike
