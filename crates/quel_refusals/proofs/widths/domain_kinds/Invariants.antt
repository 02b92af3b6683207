use Rattle.std.proofs.Common.{◌≡◌, map, take}
use Rattle.calculus.specs.declared.value.Kind.TheVariants.{Of}
use Rattle.quel_refusals.proofs.widths.domain_kinds.Given as goal

abbrev pub invariant-loop-domain : goal.invariant-loop-domain
invariant-loop-domain l = l.kinds.items ≡ map (λ a. Of a.1) (take l.domain-index l.attrs)
