use Rattle.std.proofs.Common.{◌≡◌, [], true, take}
use Rattle.std.specs.List.{list_all}
use Rattle.calculus.specs.Term.{holds, no_aggs}
use Rattle.view_text.proofs.settled.conditions_hold.Given as goal

abbrev pub invariant-loop-condition : goal.invariant-loop-condition
invariant-loop-condition l = list_all (λ q. holds no_aggs q []) (take l.condition-index l.conditions) ≡ true
