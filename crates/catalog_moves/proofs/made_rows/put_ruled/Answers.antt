use Rattle.std.proofs.Common.{refl}
use Rattle.catalog_moves.proofs.FromNone.{parts_alone}
use Rattle.catalog_moves.proofs.made_rows.put_ruled.Goals as goal

pub returns : goal.returns
returns c none fits = parts_alone c.put_tree.result c.args.rows.now (record { entries = c.args.rows.now.entries; columns = c.args.rows.now.columns; parts = c.put_tree.new.rows }) _ none refl refl (c.put_tree.ensures fits)
