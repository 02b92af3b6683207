use Rattle.std.proofs.Common.{◌∙◌, ap, sym, Some, option_map}
use Rattle.catalog_read.specs.Parts.{parts_in}
use Rattle.catalog_read.proofs.Makes.{parts_with, shown, parts_are}
use Rattle.catalog_read.proofs.spelling.parts_made.Goals as goal

pub returns-in-Ok-Some : goal.returns-in-Ok-Some
unfolding parts_in
returns-in-Ok-Some c =
    ap (λ r. Some (parts_in r)) c.together.ensures
    ∙ ap (option_map (λ t. parts_with (shown t))) (sym c.in-Ok-Some.field-0-is)
    ∙ parts_are c.args.rows.now c.items.result.now c.items-2.result.now c.items-3.result.now c.items-4.result.now c.items-5.result.now
    c.all_made-relations.result c.all_made-indexes.result c.all_made-views.result c.all_made-rules.result c.all_made-permits.result
    c.both_found-conditions.result c.both_found.result c.both_found-2.result c.in-Ok-Some.field-0
    c.items.ensures c.items-2.ensures c.items-3.ensures c.items-4.ensures c.items-5.ensures
    c.all_made-relations.ensures c.all_made-indexes.ensures c.all_made-views.ensures c.all_made-rules.ensures c.all_made-permits.ensures
    c.both_found-conditions.ensures c.both_found.ensures c.both_found-2.ensures c.in-Ok-Some.ensures

pub returns-in-Ok-None : goal.returns-in-Ok-None
returns-in-Ok-None c =
    ap (option_map (λ t. parts_with (shown t))) (sym c.in-Ok-None.field-0-is)
    ∙ parts_are c.args.rows.now c.items.result.now c.items-2.result.now c.items-3.result.now c.items-4.result.now c.items-5.result.now
    c.all_made-relations.result c.all_made-indexes.result c.all_made-views.result c.all_made-rules.result c.all_made-permits.result
    c.both_found-conditions.result c.both_found.result c.both_found-2.result c.in-Ok-None.field-0
    c.items.ensures c.items-2.ensures c.items-3.ensures c.items-4.ensures c.items-5.ensures
    c.all_made-relations.ensures c.all_made-indexes.ensures c.all_made-views.ensures c.all_made-rules.ensures c.all_made-permits.ensures
    c.both_found-conditions.ensures c.both_found.ensures c.both_found-2.ensures c.in-Ok-None.ensures
