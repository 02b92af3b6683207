use Rattle.std.proofs.Common.{◌∙◌, ap, length, nat_le}
use Rattle.view_sizes.proofs.Counting.{vars_is}
use Rattle.change_check.proofs.views.lists_few.Goals as goal

pub returns : goal.returns
returns c = ap (λ vars. nat_le (length vars) 50) (c.items.ensures ∙ vars_is c.args.query.now)
