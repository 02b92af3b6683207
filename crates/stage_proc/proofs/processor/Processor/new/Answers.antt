use Rattle.std.proofs.Common.{ap}
use Rattle.calculus.specs.Who.{Asker}
use Rattle.stage_proc.proofs.processor.Processor.new.Goals as goal

pub returns-clause-serves : goal.returns-clause-serves
returns-clause-serves c = λ whom e. ap (λ (a : Asker). a.user) e
