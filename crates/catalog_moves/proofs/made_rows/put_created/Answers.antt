use Rattle.std.proofs.Common.{refl}
use Rattle.catalog_moves.proofs.FromNone.{all_known}
use Rattle.catalog_moves.proofs.made_rows.put_created.Goals as goal

pub returns : goal.returns
returns c none = all_known c.put_known.result c.args.rows.now c.put_known.new.rows _ refl none c.put_known.ensures.parts c.put_known.ensures.entries c.put_known.ensures.columns
