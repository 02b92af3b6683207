use Rattle.std.proofs.Common.{sym, ap, ◌∙◌, ◌++◌, flat_map, map, take, get_or, append_assoc, []}
use Rattle.std.proofs.lemmas.List.{take_all, take_more, flat_map_more}
use Rattle.quel_meaning.specs.WrittenParts.{aggregates_in_item}
use Rattle.quel_check.proofs.inner.push_in_items.Goals as goal

pub loop-item-preserved : goal.loop-item-preserved
loop-item-preserved c =
    c.in_ok-push_in_item.ensures ∙ (λ i. c.loop-item.invariant i ++ aggregates_in_item (c.item-item.is i))
    ∙ append_assoc (map (λ g. g.now) c.args.found.now.items) (flat_map aggregates_in_item (take c.loop-item.item-index c.args.items.now)) (aggregates_in_item (get_or c.args.items.now c.loop-item.item-index c.item-item.result))
    ∙ ap (λ ys. map (λ g. g.now) c.args.found.now.items ++ ys)
    (flat_map_more aggregates_in_item [] (take c.loop-item.item-index c.args.items.now) (get_or c.args.items.now c.loop-item.item-index c.item-item.result)
    ∙ ap (flat_map aggregates_in_item) (sym (take_more c.args.items.now c.loop-item.item-index c.item-item.result c.loop-item-test.true)))

pub returns : goal.returns
returns c = c.loop-item.invariant ∙ ap (λ ys. map (λ g. g.now) c.args.found.now.items ++ flat_map aggregates_in_item ys) (take_all c.loop-item.item-index c.args.items.now c.loop-item-test.false)
