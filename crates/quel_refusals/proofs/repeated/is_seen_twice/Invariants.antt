use Rattle.std.proofs.Common.{◌≡◌, true, map, take}
use Rattle.std.specs.Str.{bytes_eq}
use Rattle.calculus.specs.Lists.{differ_by}
use Rattle.quel_refusals.proofs.repeated.is_seen_twice.Given as goal

abbrev pub invariant-loop-name : goal.invariant-loop-name
invariant-loop-name l = record {
  seen : l.seen.keys ≡ take l.name-index l.names;
  differ : differ_by bytes_eq (map (λ n. n.now) (take l.name-index l.names)) ≡ true;
}
