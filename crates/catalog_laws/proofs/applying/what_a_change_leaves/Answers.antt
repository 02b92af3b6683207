use Rattle.catalog_laws.proofs.Standing.{files_stand, first_files_stay}
use Rattle.catalog_laws.proofs.applying.what_a_change_leaves.Goals as goal

pub returns : goal.returns
returns c = record { files = files_stand; first = first_files_stay }
