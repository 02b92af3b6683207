-- The rows of pairs, moved out of them.
use Rattle.std.specs.Prelude.{◌≡◌, List, filter_map}
use Rattle.calculus.specs.declared.change.Pair.{Pair}
use Rattle.update_change.specs.declared.pair_rows.Parts.{Parts}
use Rattle.update_change.specs.Replacements.{replacements, old_alone, new_alone}

-- these are the rows of the pairs: the replacements, and the rows of the other pairs
pub record IsParted (ps : List Pair) (parts : Parts) : Type 0 where
  pub both : parts.both.items ≡ replacements ps
  pub old : parts.old_rows.items ≡ filter_map old_alone ps
  pub new : parts.new_rows.items ≡ filter_map new_alone ps
