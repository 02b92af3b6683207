use Rattle.std.proofs.Common.{◌-◌, arith}
use Rattle.disk_model.proofs.Scanning.{none_synced, settled_at, synced_at}
use Rattle.disk_model.proofs.calls.synced.Goals as goal

pub returns-then-is_sync-clause-settled : goal.returns-then-is_sync-clause-settled
returns-then-is_sync-clause-settled c = settled_at c.args.calls.now (c.loop-n.n - 1) c.loop-n.n _ (omega arith) c.loop-n.invariant.size (c.is_sync.ensures.yes c.if-is_sync.true)

pub returns-then-is_sync-clause-stood : goal.returns-then-is_sync-clause-stood
returns-then-is_sync-clause-stood c = λ m. synced_at m c.args.calls.now (c.loop-n.n - 1) c.loop-n.n _ (omega arith) c.loop-n.invariant.size (c.is_sync.ensures.yes c.if-is_sync.true) c.loop-n.invariant.quiet

pub returns-clause-stood : goal.returns-clause-stood
returns-clause-stood c = λ m. none_synced c.loop-n.n c.args.calls.now (omega arith) c.loop-n.invariant.quiet m
