use Rattle.std.proofs.Common.{sym, refl}
use Rattle.plain_base.specs.Shown.{database_of}
use Rattle.catalog_moves.specs.Files.{files_of}
use Rattle.catalog.proofs.FileOf.{has_a_file, is_exact, is_the_file}
use Rattle.catalog.proofs.catalog.Catalog.file_of.Goals as goal

pub returns-in-Some-place-clause-there : goal.returns-in-Some-place-clause-there
returns-in-Some-place-clause-there c =
    let its = c.in-Some-place.ensures.some (c.in-Some-place.file, c.in-Some-place.used) refl in
    is_the_file (database_of c.args.self.now.plain) (files_of c.args.self.now.files) c.args.key.now c.in-Some.info.now c.in-Some-place.file c.in-Some-place.used c.file_by.result (sym c.in-Some.ensures) its.0 its.1 c.file_by.ensures.there

pub returns-in-Some-place-clause-exactly : goal.returns-in-Some-place-clause-exactly
returns-in-Some-place-clause-exactly c = λ bases.
    is_exact (database_of c.args.self.now.plain) c.args.self.now.plain.is c.args.key.now c.in-Some.info.now c.in-Some-place.file c.in-Some-place.used c.file_by.result (sym c.in-Some.ensures) c.file_by.ensures.there c.file_by.ensures.none

pub returns-in-None-clause-exactly : goal.returns-in-None-clause-exactly
returns-in-None-clause-exactly c = λ bases.
    absurd (has_a_file c.args.self.now.files (database_of c.args.self.now.plain) c.args.key.now c.in-Some.info.now bases (sym c.in-Some.ensures) (c.in-None.ensures.none refl))
