use Rattle.std.proofs.Common.{sym, ap, refl, ◌∙◌, ◌-◌, arith}
use Rattle.page_cells.specs.RowBytes.{is_row}
use Rattle.heap_am.proofs.Changed.{no_such_row}
use Rattle.heap_am.proofs.heap.Heap.take.Goals as goal

pub returns-else-is_row-clause-known : goal.returns-else-is_row-clause-known
returns-else-is_row-clause-known g c m rows t e =
    let file = c.args.self.now.file in
    let some = c.args.self.now.pages in
    record {
      image = m;
      rows = rows;
      still_known = t;
      are = e;
      so = (no_such_row file m rows (file.used - 1) c.args.row.now (omega arith) e (ap (is_row c.args.row.now) (sym c.items.ensures) ∙ sym c.is_row.ensures ∙ c.if-is_row.false), refl);
    }
