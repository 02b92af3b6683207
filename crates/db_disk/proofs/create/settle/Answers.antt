use Rattle.db_disk.proofs.Making.{one_sync, still_unborn_synced}
use Rattle.db_disk.proofs.create.settle.Goals as goal

pub returns-in_err-sync-clause-unborn : goal.returns-in_err-sync-clause-unborn
returns-in_err-sync-clause-unborn g c = λ known.
    still_unborn_synced g.D.Disk.seen g.D.Disk.touched g.D.Disk.clock g.D.Disk.left_since c.args.disk.now c.sync.new.self (c.sync.ensures.seen known) (c.sync.ensures.touched known) (c.requires.unborn known)

pub returns-in_err-sync-clause-crash : goal.returns-in_err-sync-clause-crash
returns-in_err-sync-clause-crash g c = λ known s dba so_far.
    one_sync g.D.Disk.seen g.D.Disk.touched g.D.Disk.clock g.D.Disk.left_since dba s c.args.disk.now c.sync.new.self (c.sync.ensures.seen known) (c.sync.ensures.touched known) (c.requires.unborn known)
    (c.sync.ensures.time known) so_far

pub returns-clause-unborn : goal.returns-clause-unborn
returns-clause-unborn g c = λ known.
    still_unborn_synced g.D.Disk.seen g.D.Disk.touched g.D.Disk.clock g.D.Disk.left_since c.args.disk.now c.sync.new.self (c.sync.ensures.seen known) (c.sync.ensures.touched known) (c.requires.unborn known)

pub returns-clause-crash : goal.returns-clause-crash
returns-clause-crash g c = λ known s dba so_far.
    one_sync g.D.Disk.seen g.D.Disk.touched g.D.Disk.clock g.D.Disk.left_since dba s c.args.disk.now c.sync.new.self (c.sync.ensures.seen known) (c.sync.ensures.touched known) (c.requires.unborn known)
    (c.sync.ensures.time known) so_far
