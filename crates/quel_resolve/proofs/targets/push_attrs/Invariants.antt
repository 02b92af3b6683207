use Rattle.std.proofs.Common.{◌≡◌, ◌≤◌, ◌++◌, length, take}
use Rattle.quel_meaning.specs.WrittenQuery.{attr_targets}
use Rattle.quel_resolve.proofs.targets.push_attrs.Given as goal

abbrev pub invariant-loop-place : goal.invariant-loop-place
invariant-loop-place l = length l.attrs ≤ 256 → l.targets.items ≡ l.fn.targets.items ++ attr_targets l.var (take l.place l.attrs)
