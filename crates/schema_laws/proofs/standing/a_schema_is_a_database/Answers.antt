use Rattle.schema_laws.proofs.SchemaStands.{schema_is_database}
use Rattle.schema_laws.proofs.standing.a_schema_is_a_database.Goals as goal

pub returns : goal.returns
returns c = schema_is_database
