use Rattle.catalog_laws.proofs.Changes.{takes_changes}
use Rattle.catalog_laws.proofs.part_changes.a_part_takes_changes.Goals as goal

pub returns : goal.returns
returns c = takes_changes
