use Rattle.std.proofs.Common.{◌≡◌, ◌++◌, map}
use Rattle.relation_rows.proofs.reading.put_behind.Given as goal

abbrev pub invariant-found : goal.invariant-found
invariant-found l = l.rows.items ≡ l.fn.rows.items ++ map (λ f. f.1) l.yielded
