use Rattle.schema_laws.proofs.LawfulHalves.{by_schema}
use Rattle.schema_laws.proofs.lawful.a_change_is_lawful_by_schema_and_rows.Goals as goal

pub returns : goal.returns
returns c = by_schema
