use Rattle.page_chain.specs.Lists.{each}
use Rattle.std.proofs.Common.{◌≡◌, true, None}
use Rattle.calculus.specs.Structures.{is_view}
use Rattle.stored_database.specs.Spelled.{domain_of}
use Rattle.catalog.proofs.FileOf.{by_chain, by_index, none_right}
use Rattle.catalog.proofs.files.file_by.Goals as goal

pub returns-in-Index-clause-there : goal.returns-in-Index-clause-there
returns-in-Index-clause-there c = by_index c.args.info.now c.args.file c.args.used c.index_file.result c.in-Index.is c.index_file.ensures.there

pub returns-in_default : goal.returns-in_default
returns-in_default c = record {
  there = by_chain c.args.info.now c.args.file c.args.used c.file_with.result c.in_default.not-View c.in_default.not-Index c.file_with.ensures.there;
  none = none_right c.file_with.result (is_view c.args.info.now.spec ≡ true) (each domain_of c.args.info.now.attrs ≡ None) c.file_with.ensures.none;
}
