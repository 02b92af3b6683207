use Rattle.std.proofs.Common.{◌≡◌, ◌≤◌, Some, length, take}
use Rattle.disk_model.specs.Disk.{Image}
use Rattle.heap_am.specs.Near.{IsDoneOn}
use Rattle.heap_am.proofs.heap.Heap.renew_all.Given as goal

abbrev pub invariant-numbers : goal.invariant-numbers
invariant-numbers g l = record {
  put : l.put ≤ length l.coming;
  done : (m : Image) → g.S.PageStore.pages l.initial.store ≡ Some m
      → IsDoneOn l.self.file.file l.self.file.used (take l.number-index l.numbers) l.going (take l.put l.coming) m (g.S.PageStore.pages l.store);
  came : (s : _) → g.S.PageStore.came s l.initial.store → g.S.PageStore.came s l.store;
  faults : g.S.PageStore.faults l.store ≡ g.S.PageStore.faults l.initial.store;
}
