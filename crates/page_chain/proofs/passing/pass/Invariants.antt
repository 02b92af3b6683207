use Rattle.std.proofs.Common.{◌≡◌, ◌-◌, ◌*◌, ◌<◌, ◌≤◌, Some, length, take}
use Rattle.disk_model.specs.Disk.{Image}
use Rattle.page_chain.proofs.Reaching.{Reached}
use Rattle.page_chain.proofs.passing.pass.Given as goal

abbrev pub invariant-pages : goal.invariant-pages
invariant-pages g l = record {
  below : l.number < l.chain.bound;
  few : l.gone ≤ 254 * l.number;
  put : l.put ≤ length l.coming;
  reached : (m : Image) → g.S.PageStore.pages l.initial.store ≡ Some m
      → Reached l.chain.file l.chain.bound l.number l.going (take l.put l.coming) l.gone m (g.S.PageStore.pages l.store) (g.S.PageStore.reads l.initial.store) (g.S.PageStore.reads l.store);
  unmet : 0 < length l.going → l.gone < length l.going;
  came : (s : _) → g.S.PageStore.came s l.initial.store → g.S.PageStore.came s l.store;
  faults : g.S.PageStore.faults l.store ≡ g.S.PageStore.faults l.initial.store;
}

abbrev pub decreases-pages : goal.decreases-pages
decreases-pages g l = l.chain.bound - l.number
