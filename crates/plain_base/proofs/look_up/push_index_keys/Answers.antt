use Rattle.std.proofs.Common.{sym, ap, ◌∙◌, ◌++◌, map, filter}
use Rattle.std.proofs.lemmas.List.{append-nil, take_all}
use Rattle.calculus.specs.Keys.{same_key}
use Rattle.plain_base.proofs.Picked.{picked_more}
use Rattle.plain_base.proofs.look_up.push_index_keys.Goals as goal

pub loop-index-preserved : goal.loop-index-preserved
loop-index-preserved c =
    picked_more (λ x. x.info.key) (λ x. same_key x.base c.args.rel.now) c.args.indexes.now c.loop-index.index-index c.index-item.result c.args.keys.now.items c.loop-index.keys.items
    c.push_index_key.new.keys.items c.loop-index-test.true c.index-item.is c.loop-index.invariant c.in_ok-push_index_key.ensures

pub loop-index-init : goal.loop-index-init
loop-index-init c = sym (append-nil c.args.keys.now.items)

pub returns : goal.returns
returns c =
    c.loop-index.invariant
    ∙ ap (λ xs. c.args.keys.now.items ++ map (λ x. x.info.key) (filter (λ x. same_key x.base c.args.rel.now) xs)) (take_all c.loop-index.index-index c.args.indexes.now c.loop-index-test.false)
