use Rattle.std.proofs.Common.{◌∙◌, ap}
use Rattle.quel_meaning.specs.Ranges.{declared}
use Rattle.quel_check.proofs.Declared.{inserted}
use Rattle.quel_check.proofs.range_table.RangeTable.declare.Goals as goal

pub returns-in-Ok-clause-declared : goal.returns-in-Ok-clause-declared
returns-in-Ok-clause-declared c =
    c.in-Ok.ensures.entries ∙ inserted c.self.inside.ranges.entries c.args.var c.args.rel ∙ ap (λ ranges. declared ranges c.args.var c.args.rel) c.self.view_is
