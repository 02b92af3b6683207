use Rattle.std.proofs.Common.{◌≡◌, Some}
use Rattle.disk_model.specs.Disk.{Image}
use Rattle.base_trait.specs.Scans.{next_meeting}
use Rattle.am_traits.specs.Placed.{Placed, rows_from}
use Rattle.page_chain.specs.Lying.{place_of}
use Rattle.page_chain.specs.Pages.{page_at}
use Rattle.heap_am.specs.Heap.{heap_rows}
use Rattle.heap_am.proofs.heap.Heap.first_met.Given as goal

abbrev pub invariant-lines : goal.invariant-lines
invariant-lines l = (m : Image) (rows : Placed) → heap_rows l.self.file m ≡ Some rows → m (page_at l.self.file.file l.number) ≡ Some l.page
    → next_meeting l.probe (rows_from rows (place_of l.number l.from)) ≡ next_meeting l.probe (rows_from rows (place_of l.number l.line))
