use Rattle.catalog_moves.proofs.FromNone.{all_came}
use Rattle.catalog_moves.proofs.made_rows.put_viewed.Goals as goal

pub returns : goal.returns
returns c none fits =
    all_came c.put_tree.result c.args.rows.now (record { entries = c.put_known.new.rows.entries; columns = c.put_known.new.rows.columns; parts = c.put_tree.new.rows }) _ c.put_known.new.rows.parts.items none
    c.in_ok-put_known.ensures.parts c.in_ok-put_known.ensures.entries c.in_ok-put_known.ensures.columns (c.put_tree.ensures fits)
