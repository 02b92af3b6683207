use Rattle.plain_base.specs.Shown.{database_of}
use Rattle.catalog_moves.specs.Files.{files_of}
use Rattle.catalog.specs.Laid.{coming_of, going_of}
use Rattle.catalog.proofs.applying.write_catalogue.Goals as goal

pub returns-clause-written : goal.returns-clause-written
returns-clause-written g c m cat is ends there bases prepared =
    let db = database_of c.args.plain.now in
    let files = files_of c.args.files.now in
    let given = c.args.given in
    let places = c.in_ok-rows.ensures.places in
    c.write_moves.ensures.written m cat (going_of c.args.change.now files given.file given.used db) (coming_of c.args.change.now files given.file given.used db) is ends there (prepared.changes places) (prepared.stands places)
    (c.in_ok-rows.ensures.moves bases)

pub returns-clause-came : goal.returns-clause-came
returns-clause-came g c = c.write_moves.ensures.came
