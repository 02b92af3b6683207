use Rattle.std.proofs.Common.{◌≡◌, ap, drop, map, option_map, subst, sym, ◌+◌, ◌∙◌, [], ◌∷◌}
use Rattle.std.proofs.lemmas.List.{map-append}
use Rattle.page_chain.specs.Lists.{each}
use Rattle.catalog_read.proofs.Each.{each_done, each_fails, each_next, in_front}
use Rattle.catalog_read.proofs.sorting.read_each.Goals as goal

pub loop-row-preserved : goal.loop-row-preserved
loop-row-preserved g c =
    let said = g.T.CatalogueRow.said in
    let by = g.T.CatalogueRow.said_by in
    let item = c.in-Ok-Some.row in
    subst (λ l. in_front l (each by (drop (c.loop-row.row-index + 1) c.args.rows.now)) ≡ each by c.args.rows.now)
    (sym (ap (map said) c.in_ok-push-in-Ok-Some.ensures.items ∙ map-append said c.loop-row.read.items (item ∷ [])))
    (each_next by (map said c.loop-row.read.items) c.args.rows.now c.loop-row.row-index c.row-item.result (said item) _ c.loop-row-test.true c.row-item.is (ap (option_map said) (sym c.in-Ok-Some.field-0-is) ∙ c.in-Ok-Some.ensures ∙ ap by c.items.ensures) c.loop-row.invariant)

pub returns-in-Ok-None : goal.returns-in-Ok-None
returns-in-Ok-None g c =
    let said = g.T.CatalogueRow.said in
    let by = g.T.CatalogueRow.said_by in
    each_fails by (map said c.loop-row.read.items) c.args.rows.now c.loop-row.row-index c.row-item.result _ c.loop-row-test.true c.row-item.is
    (ap (option_map said) (sym c.in-Ok-None.field-0-is) ∙ c.in-Ok-None.ensures ∙ ap by c.items.ensures) c.loop-row.invariant

pub returns : goal.returns
returns g c = each_done g.T.CatalogueRow.said_by (map g.T.CatalogueRow.said c.loop-row.read.items) c.args.rows.now c.loop-row.row-index _ c.loop-row-test.false c.loop-row.invariant
