use Rattle.std.proofs.Common.{◌≡◌, ◌++◌, ◌<◌, true, Some, None, get_or}
use Rattle.disk_model.specs.Disk.{Image}
use Rattle.am_traits.specs.Placed.{Placed}
use Rattle.page_cells.specs.Page.{slots}
use Rattle.page_chain.specs.Lying.{place_of}
use Rattle.page_chain.specs.Pages.{page_at}
use Rattle.page_chain.specs.Rows.{reader}
use Rattle.heap_am.specs.Heap.{heap_rows, is_readable}
use Rattle.heap_am.specs.Met.{placed_from, on_page}
use Rattle.heap_am.proofs.heap.Heap.lines.Given as goal

abbrev pub invariant-lines : goal.invariant-lines
invariant-lines l = record {
  known : (m : Image) (rows : Placed) → heap_rows l.self.file m ≡ Some rows → m (page_at l.self.file.file l.number) ≡ Some l.page
      → placed_from rows (place_of l.number 0) ≡ on_page l.number l.found.items ++ placed_from rows (place_of l.number l.line);
  read : (k : _) → k < l.line → is_readable (reader l.self.file.domains) (get_or (slots l.page) k None) ≡ true;
}
