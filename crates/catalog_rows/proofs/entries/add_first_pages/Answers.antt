use Rattle.stored_database.specs.Names.{bytes32}
use Rattle.catalog_rows.proofs.Behind.{three_behind}
use Rattle.catalog_rows.proofs.entries.add_first_pages.Goals as goal

pub returns : goal.returns
returns c =
    let e = c.args.entry.now in
    three_behind c.add_number-3.result c.args.row.now.items _ _ c.add_number-3.new.row.items (bytes32 e.base) (bytes32 e.primary) (bytes32 e.directory) c.in_ok-add_number.ensures c.in_ok-add_number-2.ensures c.add_number-3.ensures
