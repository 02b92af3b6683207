use Rattle.std.proofs.Common.{refl, map}
use Rattle.stored_database.specs.Columns.{column_bytes}
use Rattle.stored_database.specs.Printed.{columns_from}
use Rattle.catalog_moves.proofs.Coming.{came_none, columns_more}
use Rattle.catalog_moves.specs.Moves.{Came}
use Rattle.catalog_moves.proofs.Whole.{whole}
use Rattle.catalog_moves.proofs.trees.put_few_columns.Goals as goal

pub loop-i-init : goal.loop-i-init
unfolding columns_from
loop-i-init c = came_none c.args.rows.now.items c.args.rows.now.items refl

pub loop-i-preserved : goal.loop-i-preserved
loop-i-preserved c =
    columns_more c.args.file c.args.attrs.now c.loop-i.i c.index-attrs-i.result c.loop-i-test.true c.index-attrs-i.is c.args.rows.now.items c.loop-i.rows.items c.put_column.new.rows.items
    c.loop-i.invariant c.in_ok-put_column.ensures

pub returns : goal.returns
returns c =
    whole (λ attrs. Came c.args.rows.now.items c.loop-i.rows.items (map column_bytes (columns_from c.args.file 0 attrs))) c.args.attrs.now c.loop-i.i c.loop-i-test.false c.loop-i.invariant
