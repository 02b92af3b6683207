use Rattle.std.proofs.Common.{◌∙◌, ap, sym, Some, option_map}
use Rattle.catalog_read.specs.Read.{catalogue_shown}
use Rattle.catalog_read.proofs.Catalogues.{catalogue_with, said, read_whole}
use Rattle.catalog_read.proofs.reading.read_catalogue.Goals as goal

pub returns-in-Ok-Some : goal.returns-in-Ok-Some
unfolding catalogue_shown
returns-in-Ok-Some c =
    ap (λ r. Some (catalogue_shown r)) c.together.ensures
    ∙ ap (option_map (λ t. catalogue_with (said t))) (sym c.in-Ok-Some.field-0-is)
    ∙ read_whole c.args.entries.now c.args.columns.now c.args.parts.now c.read_rows-entries.result c.read_rows-columns.result c.read_rows-parts.result
    c.both_found.result c.in-Ok-Some.field-0 c.read_rows-entries.ensures c.read_rows-columns.ensures c.read_rows-parts.ensures c.both_found.ensures c.in-Ok-Some.ensures

pub returns-in-Ok-None : goal.returns-in-Ok-None
returns-in-Ok-None c =
    ap (option_map (λ t. catalogue_with (said t))) (sym c.in-Ok-None.field-0-is)
    ∙ read_whole c.args.entries.now c.args.columns.now c.args.parts.now c.read_rows-entries.result c.read_rows-columns.result c.read_rows-parts.result
    c.both_found.result c.in-Ok-None.field-0 c.read_rows-entries.ensures c.read_rows-columns.ensures c.read_rows-parts.ensures c.both_found.ensures c.in-Ok-None.ensures
