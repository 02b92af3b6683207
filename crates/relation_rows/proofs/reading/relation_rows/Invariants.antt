use Rattle.std.proofs.Common.{◌≡◌, ◌++◌, Some}
use Rattle.disk_model.specs.Disk.{Image, RisesUpTo}
use Rattle.am_traits.specs.Placed.{Placed, rows_of, rows_from}
use Rattle.page_chain.specs.Lying.{place_of}
use Rattle.heap_am.specs.Heap.{heap_rows}
use Rattle.relation_rows.proofs.Pages.{StandTo}
use Rattle.relation_rows.proofs.reading.relation_rows.Given as goal

abbrev pub invariant-pages : goal.invariant-pages
invariant-pages g l = record {
  known : (m : Image) (placed : Placed) → g.S.PageStore.pages l.fn.store ≡ Some m → heap_rows l.fn.file m ≡ Some placed
      → rows_of placed ≡ l.rows.items ++ rows_from placed (place_of l.number 0);
  stand : (m : Image) → g.S.PageStore.pages l.fn.store ≡ Some m → StandTo l.fn.file m l.number;
  same : g.S.PageStore.pages l.store ≡ g.S.PageStore.pages l.fn.store;
  reads : RisesUpTo l.number (g.S.PageStore.reads l.fn.store) (g.S.PageStore.reads l.store);
  came : (s : _) → g.S.PageStore.came s l.fn.store → g.S.PageStore.came s l.store;
  only_read : (s : _) → g.S.PageStore.only_read s l.fn.store → g.S.PageStore.only_read s l.store;
  faults : g.S.PageStore.faults l.store ≡ g.S.PageStore.faults l.fn.store;
}
