use Rattle.std.proofs.Common.{◌≡◌, ◌++◌, map, take}
use Rattle.view_text.specs.Replaced.{no_aggregate, replaced}
use Rattle.view_text.specs.Expansions.{substituted_from}
use Rattle.cut_rules.proofs.aggregates.put_links.Given as goal

abbrev pub invariant-loop-term : goal.invariant-loop-term
invariant-loop-term l = l.made.items ≡ l.fn.made.items ++ map (replaced no_aggregate (substituted_from 0 l.expansions)) (take l.term-index l.terms)
