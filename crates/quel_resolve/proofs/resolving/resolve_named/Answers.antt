use Rattle.std.proofs.Common.{◌≡◌, true, Ok, sym, ap, ◌∙◌}
use Rattle.quel_refusals.specs.CheckedStatements.{is_checked}
use Rattle.quel_resolve.proofs.WithQuery.{checked_if_query}
use Rattle.quel_resolve.proofs.Resolved.{by_cause, by_nothing}
use Rattle.quel_resolve.proofs.Saying.{says_further}
use Rattle.quel_resolve.proofs.resolving.resolve_named.Goals as goal

pub returns-else-needs_no_query-clause-known : goal.returns-else-needs_no_query-clause-known
returns-else-needs_no_query-clause-known g c = λ db h names.
    let checked : is_checked c.args.s.now ≡ true = checked_if_query c.args.s.now (sym c.needs_no_query.ensures ∙ c.if-needs_no_query.false) in
    says_further c.tree.result _ _ _ _
    (λ tree k. by_nothing db c.args.user.now c.args.ranges.now c.args.s.now names k.1 ∙ ap Ok (sym k.0))
    (λ number k. by_cause db c.args.user.now c.args.ranges.now c.args.s.now number names k)
    (c.tree.ensures.known db h names checked)
