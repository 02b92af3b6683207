use Rattle.std.proofs.Common.{ap, ◌∙◌, [], ◌∷◌, ◌++◌, sym, map}
use Rattle.std.proofs.lemmas.List.{append-nil, take_all}
use Rattle.calculus.specs.Catalogue.{relation_row}
use Rattle.plain_base.proofs.CatalogueLists.{item_next}
use Rattle.plain_base.proofs.catalogue_rows.push_relation_rows.Goals as goal

pub loop-item-preserved : goal.loop-item-preserved
loop-item-preserved g c =
    item_next relation_row g.T.Known.known c.args.items.now c.loop-item.item-index c.item-item.result c.args.rows.now.items c.loop-item.rows.items
    c.push_relation_row.new.rows.items c.loop-item-test.true c.item-item.is c.loop-item.invariant
    (c.in_ok-push_relation_row.ensures ∙ ap (λ info. c.loop-item.rows.items ++ relation_row info ∷ []) c.info.ensures)

pub loop-item-init : goal.loop-item-init
loop-item-init g c = sym (append-nil c.args.rows.now.items)

pub returns : goal.returns
returns g c =
    c.loop-item.invariant
    ∙ ap (λ ts. c.args.rows.now.items ++ map relation_row (map g.T.Known.known ts)) (take_all c.loop-item.item-index c.args.items.now c.loop-item-test.false)
