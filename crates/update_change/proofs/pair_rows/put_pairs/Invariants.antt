use Rattle.std.proofs.Common.{◌≡◌, filter_map}
use Rattle.update_change.specs.Replacements.{replacements, old_alone, new_alone}
use Rattle.update_change.proofs.pair_rows.put_pairs.Given as goal

abbrev pub invariant-loop-pair : goal.invariant-loop-pair
invariant-loop-pair l = record {
  both : l.parts.both.items ≡ replacements l.yielded;
  old : l.parts.old_rows.items ≡ filter_map old_alone l.yielded;
  new : l.parts.new_rows.items ≡ filter_map new_alone l.yielded;
}
