use Rattle.std.proofs.Common.{ap, ◌∙◌, ◌++◌, sym, map, flat_map}
use Rattle.std.proofs.lemmas.List.{append-nil, take_all}
use Rattle.calculus.specs.Catalogue.{attribute_rows}
use Rattle.plain_base.proofs.CatalogueLists.{parts_next}
use Rattle.plain_base.proofs.catalogue_rows.push_attribute_rows.Goals as goal

pub loop-item-preserved : goal.loop-item-preserved
loop-item-preserved g c =
    parts_next attribute_rows g.T.Known.known c.args.items.now c.loop-item.item-index c.item-item.result c.args.rows.now.items c.loop-item.rows.items
    c.push_rows_of.new.rows.items c.loop-item-test.true c.item-item.is c.loop-item.invariant
    (c.in_ok-push_rows_of.ensures ∙ ap (λ info. c.loop-item.rows.items ++ attribute_rows info) c.info.ensures)

pub loop-item-init : goal.loop-item-init
loop-item-init g c = sym (append-nil c.args.rows.now.items)

pub returns : goal.returns
returns g c =
    c.loop-item.invariant
    ∙ ap (λ ts. c.args.rows.now.items ++ flat_map attribute_rows (map g.T.Known.known ts)) (take_all c.loop-item.item-index c.args.items.now c.loop-item-test.false)
