use Rattle.std.proofs.Common.{sym, ap, ◌∙◌, ◌++◌, flat_map, map, take, get_or}
use Rattle.std.proofs.lemmas.List.{take_all, take_more, flat_map_more}
use Rattle.quel_meaning.specs.WrittenParts.{outer_vars_in_item}
use Rattle.quel_check.proofs.names.push_vars_of_items.Goals as goal

pub loop-item-preserved : goal.loop-item-preserved
loop-item-preserved c =
    c.in_ok-push_vars_of_item.ensures ∙ (λ i. c.loop-item.invariant i ++ outer_vars_in_item (c.item-item.is i))
    ∙ flat_map_more outer_vars_in_item (map (λ n. n.now) c.args.names.now.items) (take c.loop-item.item-index c.args.items.now) (get_or c.args.items.now c.loop-item.item-index c.item-item.result)
    ∙ ap (λ ys. map (λ n. n.now) c.args.names.now.items ++ flat_map outer_vars_in_item ys) (sym (take_more c.args.items.now c.loop-item.item-index c.item-item.result c.loop-item-test.true))

pub returns : goal.returns
returns c =
    c.loop-item.invariant
    ∙ ap (λ ys. map (λ n. n.now) c.args.names.now.items ++ flat_map outer_vars_in_item ys) (take_all c.loop-item.item-index c.args.items.now c.loop-item-test.false)
