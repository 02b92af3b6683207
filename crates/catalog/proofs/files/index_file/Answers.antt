use Rattle.catalog.proofs.FileOf.{index_there}
use Rattle.catalog.proofs.files.index_file.Goals as goal

pub returns-in-Some-clause-there : goal.returns-in-Some-clause-there
returns-in-Some-clause-there c = λ x e. index_there c.args.info.now c.args.file c.in-Some.its x c.requires (c.in_ok-its.ensures.there c.in-Some.its c.in-Some.is) e
