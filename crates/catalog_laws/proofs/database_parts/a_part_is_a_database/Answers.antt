use Rattle.catalog_laws.proofs.Part.{has_schema, starts_bare}
use Rattle.catalog_laws.proofs.Stands.{part_is_database}
use Rattle.catalog_laws.proofs.database_parts.a_part_is_a_database.Goals as goal

pub returns-clause-is : goal.returns-clause-is
returns-clause-is c = part_is_database

pub returns-clause-schema : goal.returns-clause-schema
returns-clause-schema c = has_schema

pub returns-clause-starts : goal.returns-clause-starts
returns-clause-starts c = starts_bare
