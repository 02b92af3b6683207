use Rattle.std.proofs.Common.{◌≡◌, take, map}
use Rattle.calculus.specs.Catalogue.{attribute}
use Rattle.plain_base.proofs.catalogue.put_attrs.Given as goal

abbrev pub invariant-loop-name : goal.invariant-loop-name
invariant-loop-name l = l.attrs.items ≡ map (λ c. attribute c.0.now c.1) (take l.name-index l.columns)
