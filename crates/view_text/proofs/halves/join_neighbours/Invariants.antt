use Rattle.std.proofs.Common.{◌≡◌, ◌++◌, length, reverse}
use Rattle.view_text.specs.Halves.{paired}
use Rattle.view_text.specs.Join.{join_by}
use Rattle.view_text.proofs.halves.join_neighbours.Given as goal

abbrev pub invariant-loop-first : goal.invariant-loop-first
invariant-loop-first l = l.pairs.items ++ paired (join_by l.join) (reverse l.quals.items) ≡ l.fn.pairs.items ++ paired (join_by l.join) (reverse l.fn.quals.items)

abbrev pub decreases-loop-first : goal.decreases-loop-first
decreases-loop-first l = length l.quals.items
