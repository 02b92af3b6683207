use Rattle.std.proofs.Common.{◌≡◌, ◌++◌, map}
use Rattle.update_change.proofs.pair_rows.put_rows.Given as goal

abbrev pub invariant-loop-first : goal.invariant-loop-first
invariant-loop-first l = record {
  old : l.old.items ≡ l.fn.old.items ++ map (λ b. b.0) l.yielded;
  new : l.new.items ≡ l.fn.new.items ++ map (λ b. b.1) l.yielded;
}
