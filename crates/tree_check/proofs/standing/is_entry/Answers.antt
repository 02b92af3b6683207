use Rattle.std.proofs.Common.{◌∙◌, ap, is_some}
use Rattle.tree_check.proofs.Known.{entry_known}
use Rattle.tree_check.proofs.standing.is_entry.Goals as goal

pub returns-clause-known : goal.returns-clause-known
returns-clause-known g c = λ db h. c.is_some.ensures ∙ ap is_some (c.in_ok-info.ensures.known db h) ∙ entry_known db c.args.key.now
