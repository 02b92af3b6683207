use Rattle.std.proofs.Common.{arith}
use Rattle.stage_parse.proofs.Counting.{counted_on, few}
use Rattle.stage_parse.proofs.counted.Counted.at.Goals as goal

together : goal.returns-clause-counted
together c =
    rw (c.newlines-more.ensures, c.behind.ensures, c.before-front.ensures, c.requires) (counted_on c.args.text.now c.args.self.place c.args.place (omega (arith, c.if-place-self.false)))

pub overflow_add-result : goal.overflow_add-result
overflow_add-result c = rw (together c) (omega (arith, few c.args.text.now c.args.place, c.type_inv.text))

pub returns-clause-counted : goal.returns-clause-counted
returns-clause-counted c = together c
