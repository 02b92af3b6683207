use Rattle.catalog_moves.proofs.Coming.{bytes_come}
use Rattle.catalog_moves.proofs.trees.put_bytes.Goals as goal

pub returns-in_ok-put_parts-in-Some : goal.returns-in_ok-put_parts-in-Some
returns-in_ok-put_parts-in-Some c =
    bytes_come c.args.file c.args.sort c.args.number _ c.args.rows.now.items c.put_parts.new.rows.items _ (c.in_ok-parts.ensures.rows _ c.in-Some.is)
    c.in_ok-put_parts-in-Some.ensures.came c.in_ok-put_parts-in-Some.ensures.few
