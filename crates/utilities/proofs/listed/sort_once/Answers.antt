use Rattle.utilities.proofs.Ascending.{sorted_once}
use Rattle.utilities.proofs.listed.sort_once.Goals as goal

pub returns : goal.returns
returns c =
    sorted_once c.args.numbers.now.items c.sort_unstable.new.self.items c.dedup.new.self.items
    c.sort_unstable.ensures.permutation c.sort_unstable.ensures.sorted c.dedup.ensures.filtered
