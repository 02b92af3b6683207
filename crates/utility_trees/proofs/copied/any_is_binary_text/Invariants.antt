use Rattle.std.proofs.Common.{◌≡◌, false, take}
use Rattle.std.specs.List.{list_any}
use Rattle.utility_trees.specs.Serving.{is_binary_text_of}
use Rattle.utility_trees.proofs.copied.any_is_binary_text.Given as goal

abbrev pub invariant-loop-name : goal.invariant-loop-name
invariant-loop-name l = list_any (is_binary_text_of l.info) (take l.name-index l.columns) ≡ false
