use Rattle.std.proofs.Common.{◌≡◌}
use Rattle.relation_rows.proofs.unseen.see_all.Given as goal

abbrev pub invariant-each : goal.invariant-each
invariant-each g l = record {
  same : g.S.PageStore.pages l.store ≡ g.S.PageStore.pages l.fn.store;
  came : (s : _) → g.S.PageStore.came s l.fn.store → g.S.PageStore.came s l.store;
  faults : g.S.PageStore.faults l.store ≡ g.S.PageStore.faults l.fn.store;
}
