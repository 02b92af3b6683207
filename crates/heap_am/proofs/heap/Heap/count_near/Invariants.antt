use Rattle.std.proofs.Common.{◌≡◌, ◌+◌, ◌*◌, ◌≤◌, Some, length, take}
use Rattle.disk_model.specs.Disk.{Image}
use Rattle.page_chain.specs.Lying.{lying, staying}
use Rattle.page_chain.specs.Pages.{pages_of}
use Rattle.heap_am.proofs.heap.Heap.count_near.Given as goal

abbrev pub invariant-numbers : goal.invariant-numbers
invariant-numbers g l = record {
  few : l.count ≤ 254 * l.number-index;
  count : (m : Image) → g.S.PageStore.pages l.initial.store ≡ Some m
      → l.count + length (staying l.going (lying (pages_of m l.self.file.file) (take l.number-index l.numbers))) ≡ length (lying (pages_of m l.self.file.file) (take l.number-index l.numbers));
  same : g.S.PageStore.pages l.store ≡ g.S.PageStore.pages l.initial.store;
  came : (s : _) → g.S.PageStore.came s l.initial.store → g.S.PageStore.came s l.store;
  faults : g.S.PageStore.faults l.store ≡ g.S.PageStore.faults l.initial.store;
}
