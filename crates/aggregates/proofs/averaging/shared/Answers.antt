use Rattle.aggregates.proofs.WithinSums.{quotient_fits, quotient_is}
use Rattle.aggregates.proofs.averaging.shared.Goals as goal

pub overflow_cast-result-2 : goal.overflow_cast-result-2
overflow_cast-result-2 c = quotient_fits c.args.count c.args.sum c.requires.some c.requires.few c.ranges.sum c.requires.within

pub returns : goal.returns
returns c = quotient_is c.args.count c.args.sum c.requires.some c.requires.few c.ranges.sum c.requires.within
