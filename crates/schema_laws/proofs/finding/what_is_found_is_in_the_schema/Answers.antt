use Rattle.schema_laws.proofs.Alike.{entries_alike, info_alike, found_alike}
use Rattle.schema_laws.proofs.finding.what_is_found_is_in_the_schema.Goals as goal

pub returns-clause-entries : goal.returns-clause-entries
returns-clause-entries c = entries_alike

pub returns-clause-known : goal.returns-clause-known
returns-clause-known c = info_alike

pub returns-clause-found : goal.returns-clause-found
returns-clause-found c = found_alike
