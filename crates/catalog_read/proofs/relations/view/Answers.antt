use Rattle.std.proofs.Common.{◌∙◌, ap, sym, Some, option_map}
use Rattle.catalog_rows.specs.Shown.{entry_in}
use Rattle.catalog_read.proofs.Makes.{view_with, view_made}
use Rattle.catalog_read.proofs.relations.view.Goals as goal

pub returns-in-Ok-Some : goal.returns-in-Ok-Some
returns-in-Ok-Some c =
    ap Some c.view_with.ensures
    ∙ ap (option_map view_with) (sym c.in-Ok-Some.field-0-is)
    ∙ view_made c.args.rows.now (entry_in c.args.entry.now) c.known-info.result c.tree-query.result c.in-Ok-Some.field-0 c.in-Ok-Some.ensures c.known-info.ensures c.tree-query.ensures

pub returns-in-Ok-None : goal.returns-in-Ok-None
returns-in-Ok-None c =
    ap (option_map view_with) (sym c.in-Ok-None.field-0-is)
    ∙ view_made c.args.rows.now (entry_in c.args.entry.now) c.known-info.result c.tree-query.result c.in-Ok-None.field-0 c.in-Ok-None.ensures c.known-info.ensures c.tree-query.ensures
