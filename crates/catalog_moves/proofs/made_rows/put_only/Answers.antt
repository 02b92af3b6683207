use Rattle.std.proofs.Common.{refl}
use Rattle.catalog_moves.proofs.FromNone.{entries_alone}
use Rattle.catalog_moves.proofs.made_rows.put_only.Goals as goal

pub returns : goal.returns
returns c none = entries_alone c.put_entry.result c.args.rows.now (record { entries = c.put_entry.new.rows; columns = c.args.rows.now.columns; parts = c.args.rows.now.parts }) _ none refl refl c.put_entry.ensures
