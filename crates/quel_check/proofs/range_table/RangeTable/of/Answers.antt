use Rattle.std.proofs.Common.{◌∙◌, ap}
use Rattle.quel_meaning.specs.Ranges.{range_of}
use Rattle.quel_check.proofs.Declared.{looked}
use Rattle.quel_check.proofs.range_table.RangeTable.of.Goals as goal

pub returns : goal.returns
returns c = c.get.ensures.value ∙ looked c.self.inside.ranges.entries c.args.var.now ∙ ap (λ ranges. range_of ranges c.args.var.now) c.self.view_is
