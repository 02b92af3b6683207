use Rattle.catalog_laws.proofs.PartRows.{has_the_rows}
use Rattle.catalog_laws.proofs.database_parts.a_part_has_the_rows.Goals as goal

pub returns : goal.returns
returns c = has_the_rows
