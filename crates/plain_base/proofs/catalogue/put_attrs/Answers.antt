use Rattle.std.proofs.Common.{ap, ◌∙◌, map}
use Rattle.std.proofs.lemmas.List.{take_all}
use Rattle.calculus.specs.Catalogue.{attribute}
use Rattle.plain_base.proofs.catalogue.put_attrs.Goals as goal

pub loop-name-init : goal.loop-name-init
loop-name-init c = c.requires.empty

pub returns : goal.returns
returns c = c.loop-name.invariant ∙ ap (map (λ t. attribute t.0.now t.1)) (take_all c.loop-name.name-index c.args.columns.now c.loop-name-test.false)
