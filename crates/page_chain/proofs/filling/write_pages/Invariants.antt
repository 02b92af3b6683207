use Rattle.std.proofs.Common.{◌+◌, ◌≤◌, All, List, ℕ, length, ◌≡◌}
use Rattle.disk_model.specs.Disk.{Image}
use Rattle.page_cells.specs.Page.{IsPage}
use Rattle.page_chain.specs.Filled.{InHand}
use Rattle.page_chain.specs.Lying.{IsShort}
use Rattle.page_chain.proofs.filling.write_pages.Given as goal

abbrev pub invariant-pages : goal.invariant-pages
invariant-pages g l = record {
  page : IsPage l.page;
  short : All (λ row. IsShort row) l.left;
  forth : l.first ≤ l.at;
  count : l.at + length l.left ≤ l.first + length l.rows;
  hand : (begin : ℕ) (all : List (List ℕ)) (m : Image) → InHand l.file begin l.first l.initial.page l.rows all m (g.S.PageStore.pages l.initial.store)
      → InHand l.file begin l.at l.page l.left all m (g.S.PageStore.pages l.store);
  came : (s : g.row.S.Denot) → g.S.PageStore.came s l.initial.store → g.S.PageStore.came s l.store;
  faults : g.S.PageStore.faults l.store ≡ g.S.PageStore.faults l.initial.store;
  reads : g.S.PageStore.reads l.store ≡ g.S.PageStore.reads l.initial.store;
}

abbrev pub decreases-pages : goal.decreases-pages
decreases-pages g l = length l.left
