use Rattle.std.proofs.Common.{◌<◌, ◌⊎◌, arith, refl}
use Rattle.plain_base.specs.Shown.{database_of}
use Rattle.catalog_moves.specs.Files.{files_of}
use Rattle.catalog.proofs.Attributes.{files_there, known_there, none_found}
use Rattle.catalog.proofs.files.relation_file.Goals as goal

pub returns-in-Some-2-clause-there : goal.returns-in-Some-2-clause-there
returns-in-Some-2-clause-there c =
    files_there (database_of c.args.plain.now) (files_of c.args.files.now) c.args.key.now c.in_ok-info.field-0 c.in-Some-2.info c.in-Some.file c.in-Some.used c.file_with.result
    c.args.plain.now.is c.requires c.in_ok-info.ensures.known c.in-Some-2.is (c.in-Some.ensures.some (c.in-Some.file, c.in-Some.used) refl).0 (c.in-Some.ensures.some (c.in-Some.file, c.in-Some.used) refl).1 (let low = c.if-file-lt-FIRST_FILE.false in omega (arith, low)) (let some = c.if-used-eq0.false in omega (arith, some)) c.file_with.ensures.there

pub returns-in-Some-2-clause-none : goal.returns-in-Some-2-clause-none
returns-in-Some-2-clause-none c =
    none_found (database_of c.args.plain.now) c.args.key.now c.in_ok-info.field-0 c.in-Some-2.info c.file_with.result
    ((files_of c.args.files.now).file c.args.key.now < 16 ⊎ (files_of c.args.files.now).used c.args.key.now < 1)
    c.args.plain.now.is c.requires c.in_ok-info.ensures.known c.in-Some-2.is c.file_with.ensures.none

pub returns-in-None-clause-none : goal.returns-in-None-clause-none
returns-in-None-clause-none c = λ n. absurd (known_there (database_of c.args.plain.now) c.args.key.now c.in_ok-info.field-0 c.args.plain.now.is c.requires c.in_ok-info.ensures.known c.in-None.is)
