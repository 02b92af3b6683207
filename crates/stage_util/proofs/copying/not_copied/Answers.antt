use Rattle.stage_util.proofs.Results.{base_not_copied, shelf_not_copied, short_not_copied}
use Rattle.stage_util.specs.Working.{span}
use Rattle.stage_util.proofs.copying.not_copied.Goals as goal

pub returns-in-Shelf-clause-not_copied : goal.returns-in-Shelf-clause-not_copied
returns-in-Shelf-clause-not_copied g c = λ b asked. shelf_not_copied c.args.fault (span g.B.Base.database g.B.Base.schema g.B.Base.clock g.B.Base.left_since b c.args.base.now) c.in-Shelf.is (record { same = (g.B.Base.asks_keep b c.args.base.now asked).0; crash = (g.B.Base.asks b c.args.base.now asked).nothing_else })

pub returns-in-Base-clause-not_copied : goal.returns-in-Base-clause-not_copied
returns-in-Base-clause-not_copied g c = λ b asked. base_not_copied c.args.fault c.in-Base.fault c.of_base.result (span g.B.Base.database g.B.Base.schema g.B.Base.clock g.B.Base.left_since b c.args.base.now) c.in-Base.is c.of_base.ensures (record { same = (g.B.Base.asks_keep b c.args.base.now asked).0; crash = (g.B.Base.asks b c.args.base.now asked).nothing_else })

pub returns-in-OutOfMemory-clause-not_copied : goal.returns-in-OutOfMemory-clause-not_copied
returns-in-OutOfMemory-clause-not_copied g c = λ b asked. short_not_copied c.args.fault (span g.B.Base.database g.B.Base.schema g.B.Base.clock g.B.Base.left_since b c.args.base.now) c.in-OutOfMemory.is (record { same = (g.B.Base.asks_keep b c.args.base.now asked).0; crash = (g.B.Base.asks b c.args.base.now asked).nothing_else })
