use Rattle.std.proofs.Common.{sym, ap, ◌∙◌, ◌++◌, map, filter}
use Rattle.std.proofs.lemmas.List.{append-nil, take_all}
use Rattle.calculus.specs.Keys.{same_key}
use Rattle.plain_base.proofs.Picked.{picked_more}
use Rattle.plain_base.proofs.look_up.push_all_on.Goals as goal

pub loop-item-preserved : goal.loop-item-preserved
loop-item-preserved g c =
    picked_more (λ p. p.1) (λ p. same_key p.0 c.args.key.now) c.args.items.now c.loop-item.item-index c.item-item.result c.args.copies.now.items c.loop-item.copies.items
    c.push_on.new.copies.items c.loop-item-test.true c.item-item.is c.loop-item.invariant c.in_ok-push_on.ensures

pub loop-item-init : goal.loop-item-init
loop-item-init g c = sym (append-nil c.args.copies.now.items)

pub returns : goal.returns
returns g c =
    c.loop-item.invariant
    ∙ ap (λ ts. c.args.copies.now.items ++ map (λ p. p.1) (filter (λ p. same_key p.0 c.args.key.now) ts)) (take_all c.loop-item.item-index c.args.items.now c.loop-item-test.false)
