use Rattle.std.proofs.Common.{sym, ap, ◌∙◌, map}
use Rattle.calculus.specs.Aggregate.{source_kinds}
use Rattle.calculus.specs.QueryParts.{targets_of}
use Rattle.ovqp.proofs.Parts.{rows_kinds}
use Rattle.ovqp.proofs.kinds.source_kinds.Goals as goal

pub returns-in_ok-query_kinds-in-Rows-clause-known : goal.returns-in_ok-query_kinds-in-Rows-clause-known
returns-in_ok-query_kinds-in-Rows-clause-known g c = λ db h.
    c.in_ok-query_kinds-in-Rows.ensures ∙ ap (λ q. map (λ t. t.kind) (targets_of q)) c.get.ensures ∙ rows_kinds db c.in-Rows.q ∙ sym (ap (source_kinds db) c.in-Rows.is)
