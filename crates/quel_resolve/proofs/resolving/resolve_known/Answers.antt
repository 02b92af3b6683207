use Rattle.std.proofs.Common.{sym, ◌∙◌}
use Rattle.quel_resolve.proofs.Resolved.{by_name}
use Rattle.quel_resolve.proofs.resolving.resolve_known.Goals as goal

pub returns-in-Some-clause-known : goal.returns-in-Some-clause-known
returns-in-Some-clause-known g c = λ db h.
    by_name db c.args.user.now c.args.ranges.now c.args.s.now c.in-Some.number (sym (c.in_ok-number.ensures.known db h) ∙ c.in-Some.is)
