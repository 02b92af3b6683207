use Rattle.std.proofs.Common.{◌∙◌, sym}
use Rattle.utility_trees.proofs.Resolving.{index_number}
use Rattle.utility_trees.proofs.stored.indexed.Goals as goal

pub returns-in-Some-clause-known : goal.returns-in-Some-clause-known
returns-in-Some-clause-known g c = λ db ranges h names.
    index_number db c.args.user.now ranges c.args.rel.now c.args.name.now c.args.keys.now c.in-Some.number names (sym (c.in_ok-number.ensures.known db h) ∙ c.in-Some.is)

pub returns-in-None-clause-known : goal.returns-in-None-clause-known
returns-in-None-clause-known g c = λ db ranges h names.
    c.index_found.ensures.known db ranges (c.in_ok-number.ensures.stays _ h) names (sym (c.in_ok-number.ensures.known db h) ∙ c.in-None.is)
