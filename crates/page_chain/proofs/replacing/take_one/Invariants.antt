use Rattle.std.proofs.Common.{◌≡◌, ◌-◌, ◌<◌, Some}
use Rattle.disk_model.specs.Disk.{Image}
use Rattle.page_chain.proofs.Took.{Searched}
use Rattle.page_chain.proofs.replacing.take_one.Given as goal

abbrev pub invariant-pages : goal.invariant-pages
invariant-pages g l = record {
  below : l.number < l.bound;
  same : g.S.PageStore.pages l.store ≡ g.S.PageStore.pages l.initial.store;
  searched : (m : Image) → g.S.PageStore.pages l.initial.store ≡ Some m → Searched l.file l.bound l.number l.row m;
  came : (s : _) → g.S.PageStore.came s l.initial.store → g.S.PageStore.came s l.store;
  faults : g.S.PageStore.faults l.store ≡ g.S.PageStore.faults l.initial.store;
}

abbrev pub decreases-pages : goal.decreases-pages
decreases-pages g l = l.bound - l.number
