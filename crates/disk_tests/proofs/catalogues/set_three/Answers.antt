use Rattle.plain_base.specs.Shown.{database_of}
use Rattle.catalog_moves.specs.Files.{files_of}
use Rattle.disk_tests.proofs.Said.{may_be}
use Rattle.disk_tests.proofs.catalogues.set_three.Goals as goal

pub set_file-requires : goal.set_file-requires
set_file-requires g c =
    may_be (database_of c.args.catalog.now.plain) (files_of c.args.catalog.now.files) c.args.key.now c.in-Some.its c.in-Some-number.file (c.in_ok-its.ensures.there c.in-Some.its c.in-Some.is) c.in-Heap.is
    (c.number.ensures c.in-Some-number.file c.in-Some-number.is)
