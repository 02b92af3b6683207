use Rattle.std.proofs.Common.{ap, ◌∙◌, ◌++◌, flat_map}
use Rattle.ovqp.specs.Naming.{named, named_in_qual}
use Rattle.cut_rules.proofs.Naming.{named_by_aggregate}
use Rattle.cut_rules.proofs.attributes.aggregate_uses.Goals as goal

pub returns : goal.returns
returns c =
    c.in_ok-substituted_qual.ensures
    ∙ ap (λ attrs. attrs ++ named_in_qual 0 c.args.g.now.qual)
    (c.in_ok-put_all_named.ensures ∙ (λ i. (c.in_ok-put_named.ensures ∙ ap (λ attrs. attrs ++ named 0 c.args.g.now.arg) c.new-attrs.ensures.items) i ++ flat_map (named 0) (c.items.ensures i)))
    ∙ named_by_aggregate c.args.g.now
