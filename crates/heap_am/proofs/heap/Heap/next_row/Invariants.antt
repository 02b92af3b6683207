use Rattle.std.proofs.Common.{◌≡◌, ◌+◌, ◌-◌, ◌≤◌, Some}
use Rattle.disk_model.specs.Disk.{Image}
use Rattle.base_trait.specs.Scans.{next_meeting}
use Rattle.am_traits.specs.Placed.{Placed, rows_from}
use Rattle.heap_am.specs.Heap.{heap_rows, pages_ahead}
use Rattle.heap_am.proofs.heap.Heap.next_row.Given as goal

abbrev pub invariant-pages : goal.invariant-pages
invariant-pages g l = record {
  known : (m : Image) (rows : Placed) → g.S.PageStore.pages l.fn.store ≡ Some m → heap_rows l.self.file m ≡ Some rows
      → next_meeting l.probe (rows_from rows l.fn.at) ≡ next_meeting l.probe (rows_from rows l.at);
  same : g.S.PageStore.pages l.store ≡ g.S.PageStore.pages l.fn.store;
  came : (s : _) → g.S.PageStore.came s l.fn.store → g.S.PageStore.came s l.store;
  only_read : (s : _) → g.S.PageStore.only_read s l.fn.store → g.S.PageStore.only_read s l.store;
  reads : g.S.PageStore.reads l.store + pages_ahead l.self.file (g.S.PageStore.last l.store) l.at ≤ g.S.PageStore.reads l.fn.store + pages_ahead l.self.file (g.S.PageStore.last l.fn.store) l.fn.at;
  faults : g.S.PageStore.faults l.store ≡ g.S.PageStore.faults l.fn.store;
}

abbrev pub decreases-pages : goal.decreases-pages
decreases-pages g l = l.used - l.at.page
