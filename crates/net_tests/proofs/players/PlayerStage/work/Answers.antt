use Rattle.std.proofs.Common.{refl}
use Rattle.net_core.proofs.Faulty.{reads_nothing}
use Rattle.net_tests.proofs.players.PlayerStage.work.Goals as goal

pub returns-in-Err-clause-reads : goal.returns-in-Err-clause-reads
returns-in-Err-clause-reads g c = reads_nothing _ 0 _ _ _ _ refl refl refl (λ e. cc e)

pub returns-in-Ok-clause-reads : goal.returns-in-Ok-clause-reads
returns-in-Ok-clause-reads g c = reads_nothing _ 0 _ _ _ _ refl refl refl (λ e. cc e)
