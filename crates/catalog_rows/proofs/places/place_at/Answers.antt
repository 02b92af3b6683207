use Rattle.std.proofs.Common.{◌∙◌}
use Rattle.catalog_rows.proofs.Fields.{number_there}
use Rattle.catalog_rows.proofs.places.place_at.Goals as goal

pub returns : goal.returns
returns c = c.read_u16.ensures ∙ number_there 2 c.args.at c.args.bytes.now c.requires
