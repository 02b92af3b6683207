use Rattle.std.proofs.Common.{◌≡◌, true, take}
use Rattle.std.specs.List.{list_all}
use Rattle.calculus.specs.Term.{holds, no_aggs}
use Rattle.stage_proc.proofs.standing.all_hold.Given as goal

abbrev pub invariant-loop-check : goal.invariant-loop-check
invariant-loop-check l = list_all (λ q. holds no_aggs q l.at) (take l.check-index l.checks) ≡ true
