use Rattle.catalog_laws.proofs.Following.{catalogue_follows}
use Rattle.catalog_laws.proofs.applying.the_catalogue_follows.Goals as goal

pub returns : goal.returns
returns c = catalogue_follows
