use Rattle.std.proofs.Common.{◌≡◌, map, take}
use Rattle.quel_refusals.proofs.numbered.permit_numbers.Given as goal

abbrev pub invariant-loop-permit : goal.invariant-loop-permit
invariant-loop-permit l = l.numbers.items ≡ map (λ p. p.number) (take l.permit-index l.permits)
