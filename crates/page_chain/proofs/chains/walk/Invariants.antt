use Rattle.std.proofs.Common.{◌≡◌, ◌-◌, ◌<◌, ℕ, List, Some}
use Rattle.disk_model.specs.Disk.{Image}
use Rattle.page_chain.specs.Chains.{chain}
use Rattle.page_chain.specs.Pages.{pages_of}
use Rattle.page_chain.proofs.Reading.{IsCounted}
use Rattle.page_chain.proofs.Walking.{IsWalked}
use Rattle.page_chain.proofs.chains.walk.Given as goal

abbrev pub invariant-pages : goal.invariant-pages
invariant-pages g l = record {
  below : l.at < l.bound;
  walked : (m : Image) → g.S.PageStore.pages l.initial.store ≡ Some m → IsWalked l.bound (pages_of m l.file) l.at l.rows.items;
  counted : (m : Image) (numbers : List ℕ) → g.S.PageStore.pages l.initial.store ≡ Some m → chain l.bound (pages_of m l.file) ≡ Some numbers
      → IsCounted l.bound (pages_of m l.file) numbers l.at (g.S.PageStore.reads l.initial.store) (g.S.PageStore.reads l.store);
  same : g.S.PageStore.pages l.store ≡ g.S.PageStore.pages l.initial.store;
  came : (s : g.row.S.Denot) → g.S.PageStore.came s l.initial.store → g.S.PageStore.came s l.store;
  only_read : (s : g.row.S.Denot) → g.S.PageStore.only_read s l.initial.store → g.S.PageStore.only_read s l.store;
  faults : g.S.PageStore.faults l.store ≡ g.S.PageStore.faults l.initial.store;
}

abbrev pub decreases-pages : goal.decreases-pages
decreases-pages g l = l.bound - l.at
