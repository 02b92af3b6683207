use Rattle.std.proofs.Common.{◌≡◌}
use Rattle.relation_rows.proofs.unseen.see_range.Given as goal

abbrev pub invariant-numbers : goal.invariant-numbers
invariant-numbers g l = record {
  same : g.S.PageStore.pages l.store ≡ g.S.PageStore.pages l.fn.store;
  came : (s : _) → g.S.PageStore.came s l.fn.store → g.S.PageStore.came s l.store;
  faults : g.S.PageStore.faults l.store ≡ g.S.PageStore.faults l.fn.store;
}
