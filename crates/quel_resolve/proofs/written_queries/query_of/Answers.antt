use Rattle.std.proofs.Common.{◌∙◌}
use Rattle.quel_resolve.proofs.Whole.{query_whole}
use Rattle.quel_resolve.proofs.written_queries.query_of.Goals as goal

pub returns-in_ok-query_with-in-Ok-clause-known : goal.returns-in_ok-query_with-in-Ok-clause-known
returns-in_ok-query_with-in-Ok-clause-known g c = λ scope h ev en k ki stand.
    c.in_ok-query_with-in-Ok.ensures scope ev en k ki stand
    ∙ query_whole scope c.args.s.now _ _ _ _ c.items_of.result.now c.in-Ok.targets.items c.items_of.ensures (c.in-Ok.ensures.known scope.db h) ev en k ki stand
