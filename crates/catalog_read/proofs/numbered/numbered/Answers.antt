use Rattle.std.proofs.Common.{◌∙◌, map, option_map}
use Rattle.std.proofs.lemmas.Result.{IfOk-weaker}
use Rattle.stored_database.specs.Entries.{Entry}
use Rattle.stored_database.specs.Spelled.{entry_at}
use Rattle.catalog_rows.specs.Shown.{part_in}
use Rattle.catalog_read.specs.Read.{catalogue_shown}
use Rattle.catalog_read.specs.Rows.{numbered_in}
use Rattle.catalog_read.proofs.Both.{plain_both}
use Rattle.catalog_read.proofs.Makes.{numbered_is}
use Rattle.catalog_read.proofs.numbered.numbered.Goals as goal

pub returns : goal.returns
unfolding catalogue_shown
returns g c =
    let cat = catalogue_shown c.args.rows.now in
    let p = part_in c.args.part.now in
    IfOk-weaker c.both_found.result _ _
    (λ found are. plain_both (option_map (λ (e : Entry). e.key) (entry_at cat p.file)) (numbered_in g.T.Spelled.codec g.T.HasNumber.number (map part_in c.args.rows.now.parts) p)
    c.key_at-key.result c.numbered_tree.result found are c.key_at-key.ensures c.numbered_tree.ensures
    ∙ numbered_is g.T.Spelled.codec g.T.HasNumber.number cat p) c.both_found.ensures
