use Rattle.std.proofs.Common.{◌∙◌, ap, map, vec_items}
use Rattle.quel_refusals.proofs.Linked.{kind_over}
use Rattle.quel_refusals.proofs.aggregates.aggregate_kind.Goals as goal

pub returns-clause-known : goal.returns-clause-known
returns-clause-known g c = λ db h.
    c.kind_over.ensures ∙ kind_over db c.args.g.now _ (map vec_items c.args.vars.now) (ap (map vec_items) c.deref.ensures.value ∙ c.in_ok-inner.ensures.known db h)
