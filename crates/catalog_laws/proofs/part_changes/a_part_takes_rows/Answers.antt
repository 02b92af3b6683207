use Rattle.catalog_laws.proofs.RowsCome.{takes_rows}
use Rattle.catalog_laws.proofs.part_changes.a_part_takes_rows.Goals as goal

pub returns : goal.returns
returns c = takes_rows
